-- Nothing comes of tuples that go on with a hypothesis whose type clashes with what the first premises leave of the next one.
use Rattle.std.proofs.Common.{◌≡◌, ℕ, suc, ◌<◌, ◌≤◌, Option, Some, List, [], ◌∷◌, ◌++◌, All, length, map, slice_get, refl, sym, ap, ◌∙◌, subst, append_assoc, length-append, arith}
use Rattle.std.proofs.lemmas.List.Elements.{All-head, All-tail, All-append, All-push}
use Rattle.lf_definitions.specs.Syntax.{SimpleType, LfType, LfAtom, atomic, conclusion_atom}
use Rattle.lf_definitions.specs.Shaping.{Scope, ShapedSpine, ShapedType, shaped_pi, shaped_family}
use Rattle.lf_definitions.specs.Substitution.{Replacement, SubstitutedSpine, SubstitutedType, substituted_pi, substituted_family}
use Rattle.lf_definitions.specs.Instantiation.{instantiating, InstantiatedType, LfAssigned, assignment_of}
use Rattle.unification.specs.Patterns.{has_number}
use Rattle.unification.specs.Equations.{LfEquation, of_atoms, numbered_from, solved}
use Rattle.unification.specs.Transitions.{Frozen, Unifies}
use Rattle.unification.specs.Solutions.{ShapedEquation, ShapedEquations, Solves}
use Rattle.unifiers.proofs.Laws.{solutions_are_instances, answers_solve, instances_follow}
use Rattle.unifiers.proofs.Steps.{All-append_left, All-append_right}
use Rattle.lf_terms.specs.Types.{type_of}
use Rattle.meta_goals.specs.Bindings.{LfBinding, assigned_of, assigning}
use Rattle.meta_goals.specs.Instantiates.{Instantiates, TypeIsShaped}
use Rattle.meta_unify.specs.Walks.{KnowsContexts}
use Rattle.applications.specs.Candidates.{LfHypothesis, premises_from}
use Rattle.build_shared.specs.Seen.{seen_atom}
use Rattle.build_forward.specs.declared.refusal.Sieve.{Sieve}
use Rattle.build_forward.specs.Onwards.{IsAtomIn}
use Rattle.build_forward.specs.Clashes.{AtomsClash}
use Rattle.build_forward.specs.Sieves.{IsSieve, ClashesComeToNothing}
use Rattle.build_forward.proofs.Clashing.{assignments_keep_rigid}
use Rattle.build_forward.proofs.SameArguments.{between-next}
use Rattle.build_forward.proofs.PassedTuples.{tried, kinds_known, among, tried_are_shaped, none_of}

-- A further equation after some.
numbered-next : (n : ℕ) (xs : List (LfAtom × LfAtom)) (a b : LfAtom) (others : List (LfAtom × LfAtom)) →
    (path : List ℕ) × (more : List LfEquation) × (numbered_from n (xs ++ (a, b) ∷ others) ≡ numbered_from n xs ++ of_atoms path a b ∷ more)
numbered-next n [] a b others = (n ∷ [], numbered_from (suc n) others, refl)
numbered-next n (x ∷ xs) a b others = let r = numbered-next (suc n) xs a b others in (r.0, r.1, ap (λ l. of_atoms (n ∷ []) x.0 x.1 ∷ l) r.2)

-- The arguments of an atom's instance.
instance_args : {σ : Replacement} {x y : LfType} → SubstitutedType σ x y → (a r : LfAtom) → x ≡ atomic a → y ≡ atomic r → (r.atom_family ≡ a.atom_family) × SubstitutedSpine σ a.atom_args r.atom_args
instance_args (substituted_pi first rest) a r x_is y_is = absurd cc
instance_args (substituted_family {σ = σ} {f = f} {ts = ts} {vs = vs} args) a r x_is y_is =
    let here : f ≡ a.atom_family = cc in
    let there : f ≡ r.atom_family = cc in
    let args_are : ts ≡ a.atom_args = cc in
    let results_are : vs ≡ r.atom_args = cc in
    (sym there ∙ here, subst (SubstitutedSpine σ a.atom_args) results_are (subst (λ x. SubstitutedSpine σ x vs) args_are args))

atom_args_are_shaped : {kinds : ℕ → Option SimpleType} {Γ : Scope} {x : LfType} → ShapedType kinds Γ x → (a : LfAtom) → x ≡ atomic a → (s : SimpleType) × ShapedSpine Γ a.atom_args s
atom_args_are_shaped (shaped_pi first rest) a is = absurd cc
atom_args_are_shaped (shaped_family {Γ = Γ} {args = args} s known shaped) a is =
    let same : args ≡ a.atom_args = cc in
    (s, subst (λ x. ShapedSpine Γ x s) same shaped)

module _ (s : Sieve) (is : IsSieve s) (chosen : List LfHypothesis) (chosen_are : All (IsAtomIn s.onward.now.usage.now) chosen) (a : LfAtom) (a_is : slice_get (map seen_atom s.premises.now) (length chosen) ≡ Some a)
    (bindings : List LfBinding) (before : Unifies (has_number s.frozen.now) (numbered_from 0 (tried s is chosen)) (solved (map assigned_of bindings))) where
  abbrev frozen : Frozen
  frozen = has_number s.frozen.now

  abbrev first : List LfEquation
  first = numbered_from 0 (tried s is chosen)

  -- What is known of a tuple that goes on with a hypothesis.
  module _ (h : LfHypothesis) (h_is : IsAtomIn s.onward.now.usage.now h) (rest : List LfHypothesis) (rest_are : All (IsAtomIn s.onward.now.usage.now) rest)
      (enough : length (premises_from 0 (type_of s.onward.now.ty.now)) ≤ length (chosen ++ h ∷ [] ++ rest)) where
    abbrev hs : List LfHypothesis
    hs = chosen ++ h ∷ [] ++ rest

    all : All (IsAtomIn s.onward.now.usage.now) hs
    all = All-append (IsAtomIn s.onward.now.usage.now) (chosen ++ h ∷ []) rest (All-push (IsAtomIn s.onward.now.usage.now) chosen h chosen_are h_is) rest_are

    abbrev Γ : Scope
    Γ = among s is hs all enough

    parts : (path : List ℕ) × (more : List LfEquation) × (numbered_from 0 (tried s is hs) ≡ first ++ of_atoms path a (conclusion_atom h.type) ∷ more)
    parts =
        let next = between-next (map seen_atom s.premises.now) chosen a h rest a_is in
        let numbers = numbered-next 0 (tried s is chosen) a (conclusion_atom h.type) next.0 in
        (numbers.0, numbers.1, ap (λ l. numbered_from 0 (tried s is l)) (append_assoc chosen (h ∷ []) rest) ∙ ap (numbered_from 0) next.1 ∙ numbers.2)

    shaped : ShapedEquations (kinds_known s is) Γ (first ++ of_atoms parts.0 a (conclusion_atom h.type) ∷ parts.1)
    shaped = subst (ShapedEquations (kinds_known s is) Γ) parts.2 (tried_are_shaped s is hs all enough)

    first_shaped : ShapedEquations (kinds_known s is) Γ first
    first_shaped = All-append_left (ShapedEquation (kinds_known s is) Γ) first (of_atoms parts.0 a (conclusion_atom h.type) ∷ parts.1) shaped

    a_shaped : ShapedType (kinds_known s is) Γ (atomic a)
    a_shaped =
        (All-head (ShapedEquation (kinds_known s is) Γ) (of_atoms parts.0 a (conclusion_atom h.type)) parts.1
        (All-append_right (ShapedEquation (kinds_known s is) Γ) first (of_atoms parts.0 a (conclusion_atom h.type) ∷ parts.1) shaped)).0

    may_be_put : KnowsContexts (tried s is chosen) bindings → Instantiates bindings (TypeIsShaped (atomic a))
    may_be_put knows =
        let own = answers_solve (kinds_known s is) Γ frozen first (map assigned_of bindings) first_shaped before in
        record {
          size = own.0.0;
          outer = Γ;
          target = Γ;
          goes = own.0.1.goes;
          closed = own.0.1.closed;
          contexts = knows (kinds_known s is) Γ first_shaped;
          shaped = (kinds_known s is, a_shaped);
        }

    -- A solution makes of the next premise's instance what it makes of the hypothesis's type.
    never : (r : LfAtom) → InstantiatedType (assigning bindings) (atomic a) (atomic r) → AtomsClash r (conclusion_atom h.type) → (entries : List LfAssigned) →
        Unifies frozen (numbered_from 0 (tried s is hs)) (solved entries) → ⊥
    never r instance clash entries solves =
        let k = kinds_known s is in
        let b = conclusion_atom h.type in
        let σ = assignment_of entries in
        let whole = first ++ of_atoms parts.0 a b ∷ parts.1 in
        let answer = answers_solve k Γ frozen whole entries shaped (subst (λ l. Unifies frozen l (solved entries)) parts.2 solves) in
        let may = answer.0.1 in
        let here : Solves σ (of_atoms parts.0 a b) = All-head (Solves σ) (of_atoms parts.0 a b) parts.1 (All-append_right (Solves σ) first (of_atoms parts.0 a b ∷ parts.1) answer.1) in
        let early = All-append_left (Solves σ) first (of_atoms parts.0 a b ∷ parts.1) answer.1 in
        let is_instance = (solutions_are_instances k answer.0.0 Γ Γ frozen first (map assigned_of bindings) σ first_shaped before may).0 early in
        let args = instance_args instance a r refl refl in
        let args_shaped = atom_args_are_shaped a_shaped a refl in
        let follows = (instances_follow k answer.0.0 Γ Γ frozen first (map assigned_of bindings) σ first_shaped before may is_instance).1 a.atom_args r.atom_args here.1 args_shaped.0 args_shaped.1 args.1 in
        clash (args.0 ∙ here.0) (instantiating σ) (assignments_keep_rigid σ) here.1 (follows.1 here.2) here.3

  pub clashes_come_to_nothing : (r : LfAtom) → InstantiatedType (assigning bindings) (atomic a) (atomic r) → ClashesComeToNothing s.onward.now chosen r
  clashes_come_to_nothing r instance h h_is clash rest rest_are enough =
      none_of s is (chosen ++ h ∷ [] ++ rest) (all h h_is rest rest_are enough) enough (never h h_is rest rest_are enough r instance clash)

  pub may_be_instantiated : KnowsContexts (tried s is chosen) bindings → length chosen < length (premises_from 0 (type_of s.onward.now.ty.now)) → Instantiates bindings (TypeIsShaped (atomic a))
  may_be_instantiated knows few = by_tuple is.tuple is.atoms is.enough
    where
      by_tuple : (tuple : List LfHypothesis) → All (IsAtomIn s.onward.now.usage.now) tuple → length (premises_from 0 (type_of s.onward.now.ty.now)) ≤ length tuple → Instantiates bindings (TypeIsShaped (atomic a))
      by_tuple [] atoms enough = absurd (omega (arith, few, enough))
      by_tuple (h ∷ rest) atoms enough =
          may_be_put h (All-head (IsAtomIn s.onward.now.usage.now) h rest atoms) rest (All-tail (IsAtomIn s.onward.now.usage.now) h rest atoms)
          (let many = length-append (chosen ++ h ∷ []) rest in let some = length-append chosen (h ∷ []) in omega (arith, enough, many, some)) knows
