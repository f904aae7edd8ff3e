-- What is unified is solved, on all data, and equations that are solved agree in the heads that stay.
use Rattle.std.proofs.Common.{◌≡◌, ℕ, Bool, true, false, Option, Some, None, List, refl, sym, ◌∙◌, subst}
use Rattle.std.specs.Prelude.{nat_eq, ◌&&◌}
use Rattle.std.proofs.lemmas.Bool.{eq-eqb}
use Rattle.lf_definitions.specs.Syntax.{bound, constant, metavariable, LfTerm, lam, at, Spine, no_args, arg, LfType, LfAtom, Context, conclusion_atom}
use Rattle.lf_definitions.specs.ShapedGoals.{kind_shapes_in, scope_in}
use Rattle.lf_definitions.specs.Signatures.{LfSignature}
use Rattle.lf_definitions.specs.Substitution.{stays, Replacement, Substituted, SubstitutedSpine, substituted_arg}
use Rattle.lf_definitions.specs.Typing.{LfGoal}
use Rattle.lf_definitions.specs.Instantiation.{Assignment, instantiating, Instantiated, InstantiatedSpine, LfAssigned, assignment_of}
use Rattle.unification.specs.Equations.{of_atoms, numbered_from, solved}
use Rattle.unification.specs.Transitions.{Frozen, Unifies}
use Rattle.unification.specs.Solutions.{ShapedEquations, Solves, SolvesAll}
use Rattle.unification.proofs.Laws.{shaped_problems_have_one_end}
use Rattle.unifiers.proofs.Laws.{answers_solve}
use Rattle.unifiers.proofs.Spines.{stays_result}
use Rattle.lf_functions.specs.Replacing.{replaced, replaced_in_spine}
use Rattle.lf_functions.specs.Endings.{end_or_clash, unifier_of}
use Rattle.lf_functions.specs.ShapeTests.{equations_or_none}
use Rattle.lf_functions.proofs.Parts.{replaced-at, replaced_in_spine-arg}
use Rattle.opening_laws.specs.Openings.{LfOpened}
use Rattle.rule_index.specs.Keys.{head_constant, head_constants, conclusion_key, allows, all_allow, is_compatible}
use Rattle.index_laws.proofs.OpenedEnds.{EndsAs}

pub unified_are_solved : (sig : LfSignature) (goals : List LfGoal) (ctx : Context) (frozen : Frozen) (equations : List (LfAtom × LfAtom)) (entries : List LfAssigned) →
    unifier_of sig goals ctx frozen equations ≡ solved entries → SolvesAll (assignment_of entries) (numbered_from 0 equations)
unfolding unifier_of
unified_are_solved sig goals ctx frozen equations entries e = step (equations_or_none (kind_shapes_in sig) (scope_in sig goals ctx) 0 equations) e
  where
    step : (o : Option (ShapedEquations (kind_shapes_in sig) (scope_in sig goals ctx) (numbered_from 0 equations))) →
        end_or_clash (kind_shapes_in sig) (scope_in sig goals ctx) frozen (numbered_from 0 equations) o ≡ solved entries → SolvesAll (assignment_of entries) (numbered_from 0 equations)
    step None f = absurd cc
    step (Some shaped) f =
        let end = shaped_problems_have_one_end (kind_shapes_in sig) (scope_in sig goals ctx) frozen (numbered_from 0 equations) shaped in
        (answers_solve (kind_shapes_in sig) (scope_in sig goals ctx) frozen (numbered_from 0 equations) entries shaped (subst (Unifies frozen (numbered_from 0 equations)) f end.1)).1

-- the results of arguments
first_result : {σ : Replacement} {t : LfTerm} {ts rs : Spine} → SubstitutedSpine σ (arg t ts) rs → (r : LfTerm) × (us : Spine) × (rs ≡ arg r us) × Substituted σ t r × SubstitutedSpine σ ts us
first_result (substituted_arg {v = r} {vs = us} p ps) = (r, us, refl, p, ps)

result_parts : {σ : Replacement} {t r : LfTerm} {ts us : Spine} → SubstitutedSpine σ (arg t ts) (arg r us) → Substituted σ t r × SubstitutedSpine σ ts us
result_parts (substituted_arg p ps) = (p, ps)

both_true : (a b : Bool) → a ≡ true → b ≡ true → a && b ≡ true
both_true true b e f = f
both_true false b e f = absurd cc

module _ (depth : ℕ) (σ : Replacement) (stay : (c : ℕ) → σ (constant c) ≡ stays (constant c)) (θ : Assignment) where
  -- A constant stays a constant, and so does a variable of the target.
  result_of_constant : (c : ℕ) (ts : Spine) (r : LfTerm) → Instantiated θ (replaced depth σ (at (constant c) ts)) r → (rs : Spine) × (r ≡ at (constant c) rs)
  result_of_constant c ts r p =
      let result = stays_result {σ = instantiating θ} {h = constant c} {k = constant c} refl (subst (λ t. Instantiated θ t r) (replaced-at depth σ (constant c) (constant c) ts (stay c)) p) in
      (result.0, result.1)

  allowed : (t b r : LfTerm) → Instantiated θ (replaced depth σ t) r → Instantiated θ b r → allows (head_constant t) b ≡ true
  allowed (lam t) b r p q = refl
  allowed (at (bound n) ts) b r p q = refl
  allowed (at (metavariable m) ts) b r p q = refl
  allowed (at (constant c) ts) (lam b) r p q = refl
  allowed (at (constant c) ts) (at (metavariable m) us) r p q = refl
  allowed (at (constant c) ts) (at (bound n) us) r p q =
      let here = result_of_constant c ts r p in
      let there = stays_result {σ = instantiating θ} {h = bound n} {k = bound n} refl q in
      absurd (apart here.0 there.0 (sym here.1 ∙ there.1))
    where
      apart : (rs vs : Spine) → at (constant c) rs ≡ at (bound n) vs → ⊥
      apart rs vs e = absurd cc
  allowed (at (constant c) ts) (at (constant d) us) r p q =
      let here = result_of_constant c ts r p in
      let there = stays_result {σ = instantiating θ} {h = constant d} {k = constant d} refl q in
      same here.0 there.0 (sym here.1 ∙ there.1)
    where
      same : (rs vs : Spine) → at (constant c) rs ≡ at (constant d) vs → nat_eq c d ≡ true
      same rs vs e = let number : c ≡ d = cc in eq-eqb c d number

  all_allowed : (ts bs rs : Spine) → InstantiatedSpine θ (replaced_in_spine depth σ ts) rs → InstantiatedSpine θ bs rs → all_allow (head_constants ts) bs ≡ true
  all_allowed no_args bs rs p q = refl
  all_allowed (arg t ts) no_args rs p q = refl
  all_allowed (arg t ts) (arg b bs) rs p q =
      let here = first_result (subst (λ xs. InstantiatedSpine θ xs rs) (replaced_in_spine-arg depth σ t ts) p) in
      let there = result_parts (subst (InstantiatedSpine θ (arg b bs)) here.2 q) in
      both_true (allows (head_constant t) b) (all_allow (head_constants ts) bs) (allowed t b here.0 here.3 there.0) (all_allowed ts bs here.1 here.4 there.1)

-- Where what an opened type ends in and a target are solved, the type's conclusion has the target's family, and its key is compatible.
pub same_family : (type : LfType) (o : LfOpened) → EndsAs type o → (target : LfAtom) (θ : Assignment) (path : List ℕ) → Solves θ (of_atoms path o.end target) → (conclusion_atom type).atom_family ≡ target.atom_family
same_family type o ends target θ path solves = sym ends.0 ∙ solves.0

pub compatible_end : (type : LfType) (o : LfOpened) → EndsAs type o → (target : LfAtom) (θ : Assignment) (path : List ℕ) → Solves θ (of_atoms path o.end target) → is_compatible (conclusion_key (conclusion_atom type)) target ≡ true
compatible_end type o ends target θ path solves =
    let f = (conclusion_atom type).atom_family in
    let args = (conclusion_atom type).atom_args in
    both_true (nat_eq f target.atom_family) (all_allow (head_constants args) target.atom_args) (eq-eqb f target.atom_family (same_family type o ends target θ path solves))
    (all_allowed ends.1.depth ends.1.put ends.1.constants_stay θ args target.atom_args solves.1 (subst (λ xs. InstantiatedSpine θ xs solves.1) ends.1.are solves.2) solves.3)
