-- Under the conditions a type can be opened.
use Rattle.std.proofs.Common.{◌≡◌, ℕ, zero, suc, ◌<◌, ◌≤◌, ◌⊎◌, inl, inr, false, Option, Some, None, List, [], ◌∷◌, All, length, refl, sym, ap, ◌∙◌, subst, arith}
use Rattle.std.proofs.lemmas.List.Elements.{All-head, All-tail}
use Rattle.lf_definitions.specs.Syntax.{LfHead, metavariable, LfTerm, Spine, no_args, arg, SimpleType, base, arrows, LfType, pi, family, LfAtom, Context, shape_of, shapes_of_types, shape_size}
use Rattle.lf_definitions.specs.Renaming.{rename_type}
use Rattle.lf_definitions.specs.Shaping.{Scope, under, Shaped, ShapedType, shaped_pi, shaped_family}
use Rattle.lf_definitions.specs.ShapedGoals.{ShapedContext}
use Rattle.lf_definitions.specs.Substitution.{stays, becomes, Replacement, push, SubstitutedType}
use Rattle.lf_definitions.specs.Replacements.{Goes}
use Rattle.lf_definitions.specs.Expansion.{own_variables, eta}
use Rattle.lf_definitions.specs.Occurrence.{OccursIn, OccursInSpine}
use Rattle.lf_definitions.specs.Typing.{LfGoal, type_at}
use Rattle.lf_definitions.proofs.Renaming.{extended-next, each_head}
use Rattle.lf_definitions.proofs.Totality.{Goes-push, total_spine}
use Rattle.lf_definitions.proofs.Types.{total_type}
use Rattle.head_laws.specs.Mentions.{ComesFrom, comes_from_head, comes_from_term}
use Rattle.head_laws.proofs.Occurrence.{came_spine}
use Rattle.head_laws.proofs.Replacing.{mentioned_type}
use Rattle.typing_laws.specs.EtaLaws.{expanded}
use Rattle.opening_laws.specs.Openings.{returning, context_variable, keeping, AreKept, fixed_to, fresh_goal, kept_variables, IsOpenedFrom, opens_conclusion, opens_fixed, opens_fresh}
use Rattle.opening_laws.specs.Conditions.{is_dropped, is_fixed_to_dropped, is_barred, MentionsNone}
use Rattle.opening_laws.proofs.Kept.{keeping_type, is_dropped-keeping, is_dropped-metavariable, is_dropped-context_variable}
use Rattle.opening_laws.proofs.Expanded.{head_of_eta, heads_of_expanded}
use Rattle.opening_laws.proofs.Shapes.{EachArgument, AllShapes, shaped_fresh_term, FitsHypothesis, HasGoalShape, shaped_fixed_term, shape_of-fresh_goal}
use Rattle.opening_laws.proofs.Numbers.{Numbered}

pub comes_of_term : {h : LfHead} {u : LfTerm} → ComesFrom h (becomes u) → OccursIn h u
comes_of_term (comes_from_term h u o) = o

pub comes_of_head : {h k : LfHead} → ComesFrom h (stays k) → h ≡ k
comes_of_head (comes_from_head h) = refl

pub type_at-within : (ctx : Context) (place : ℕ) (a : LfType) → type_at ctx place ≡ Some a → place < length ctx
type_at-within [] place a e = absurd cc
type_at-within (b ∷ ctx) zero a e = omega arith
type_at-within (b ∷ ctx) (suc place) a e = let r = type_at-within ctx place a e in omega (arith, r)

-- goals of the shapes that the fresh goals will have
abbrev one_likely : Option ℕ → LfGoal → List LfGoal → List LfGoal → List LfGoal
one_likely None g more same = g ∷ more
one_likely (Some place) g more same = same

abbrev pub likely_goals : Context → List (ℕ × ℕ) → ℕ → ℕ → LfType → List LfGoal
likely_goals entries fixed i first (family f args) = []
likely_goals entries fixed i first (pi a b) =
    one_likely (fixed_to fixed i) (fresh_goal first entries a) (likely_goals entries fixed (suc i) (suc first) b) (likely_goals entries fixed (suc i) first b)

pub numbered_likely : (entries : Context) (fixed : List (ℕ × ℕ)) (i first : ℕ) (type : LfType) → Numbered first (likely_goals entries fixed i first type)
numbered_likely entries fixed i first (family f args) = tt
numbered_likely entries fixed i first (pi a b) = step (fixed_to fixed i) (numbered_likely entries fixed (suc i) (suc first) b) (numbered_likely entries fixed (suc i) first b)
  where
    step : (o : Option ℕ) → Numbered (suc first) (likely_goals entries fixed (suc i) (suc first) b) → Numbered first (likely_goals entries fixed (suc i) first b) →
        Numbered first (one_likely o (fresh_goal first entries a) (likely_goals entries fixed (suc i) (suc first) b) (likely_goals entries fixed (suc i) first b))
    step None more same = (refl, more)
    step (Some place) more same = same

module _ (kinds : ℕ → Option SimpleType) (G : Scope) (ctx : Context) (kept : List ℕ) (entries : Context) (are : AreKept kept 0 ctx entries) (fixed : List (ℕ × ℕ)) (shaped : ShapedContext kinds G ctx) where
  abbrev InAll : Scope
  InAll = AllShapes kinds G ctx kept entries are

  -- What is put for heads that aren't barred mentions no dropped entry.
  abbrev pub IsClear : Replacement → ℕ → Type 0
  IsClear σ i = (h k : LfHead) → is_barred kept (length ctx) fixed i k ≡ false → ComesFrom h (σ k) → is_dropped kept (length ctx) h ≡ false

  pub clear_stays : IsClear stays 0
  clear_stays h k free from = ap (is_dropped kept (length ctx)) (comes_of_head from) ∙ free

  -- The type of an argument that isn't fixed mentions nothing that is barred.
  abbrev pub Clear : ℕ → LfType → Type 0
  Clear i a = fixed_to fixed i ≡ None → MentionsNone (is_barred kept (length ctx) fixed i) a

  clear_push : (u : LfTerm) (σ : Replacement) (i : ℕ) → ((h : LfHead) → OccursIn h u → is_fixed_to_dropped kept (fixed_to fixed i) ≡ false → is_dropped kept (length ctx) h ≡ false) →
      IsClear σ i → IsClear (push u σ) (suc i)
  clear_push u σ i of_term clear h =
      each_head (λ k. is_barred kept (length ctx) fixed (suc i) k ≡ false → ComesFrom h (push u σ k) → is_dropped kept (length ctx) h ≡ false)
      (λ free from. of_term h (comes_of_term from) free)
      (λ k free from. clear h k (sym (extended-next (is_fixed_to_dropped kept (fixed_to fixed i)) (is_barred kept (length ctx) fixed i) k) ∙ free)
      (subst (ComesFrom h) (extended-next (becomes u) σ k) from))

  abbrev HasOpening : Replacement → ℕ → ℕ → LfType → Type 0
  HasOpening σ i first type = (ts : Spine) × (goals : List LfGoal) × (last : LfAtom) × IsOpenedFrom kept (length ctx) entries fixed σ i first type ts goals last

  clear_fixed : (i place : ℕ) (a : LfType) → fixed_to fixed i ≡ Some place → FitsHypothesis kinds G ctx kept entries are fixed shaped i a → (h : LfHead) →
      OccursIn h (eta (context_variable (length ctx) place) (shape_of a)) → is_fixed_to_dropped kept (fixed_to fixed i) ≡ false → is_dropped kept (length ctx) h ≡ false
  clear_fixed i place a e fits h o free =
      let at_place = fits place e in
      ap (is_dropped kept (length ctx)) (head_of_eta h (context_variable (length ctx) place) (shape_of a) o)
      ∙ is_dropped-context_variable kept (length ctx) place (type_at-within ctx place at_place.0 at_place.1)
      ∙ ap (is_fixed_to_dropped kept) (sym e) ∙ free

  clear_fresh : (g : ℕ) (s : SimpleType) (h : LfHead) → OccursIn h (expanded (metavariable g) (kept_variables kept (length ctx) entries) s) → is_dropped kept (length ctx) h ≡ false
  clear_fresh g s h o = either (heads_of_expanded h (metavariable g) (kept_variables kept (length ctx) entries) s o)
    where
      either : (h ≡ metavariable g) ⊎ OccursInSpine h (kept_variables kept (length ctx) entries) → is_dropped kept (length ctx) h ≡ false
      either (inl e) = ap (is_dropped kept (length ctx)) e ∙ is_dropped-metavariable kept (length ctx) g
      either (inr p) =
          let c = came_spine (own_variables (arrows (shapes_of_types entries) base)) (keeping kept (length ctx)) h p in
          ap (is_dropped kept (length ctx)) c.2 ∙ is_dropped-keeping kept (length ctx) c.0

  pub exists_from : (type : LfType) (i first : ℕ) (σ : Replacement) (p : ℕ) (Γ : Scope) → ShapedType kinds Γ type → Goes p Γ InAll σ → shape_size (shape_of type) ≤ p →
      EachArgument (FitsHypothesis kinds G ctx kept entries are fixed shaped) i type → EachArgument Clear i type → All (HasGoalShape kinds G ctx kept entries are fixed shaped) (likely_goals entries fixed i first type) →
      IsClear σ i → HasOpening σ i first type
  exists_from (family f args) i first σ p Γ (shaped_family s e ps) goes small fits clears is_found clear =
      let r = total_spine p ps InAll σ goes in
      (no_args, [], record { atom_family = f; atom_args = r.0 }, opens_conclusion r.1)
  exists_from (pi a b) i first σ p Γ (shaped_pi x y) goes small fits clears is_found clear =
      step (fixed_to fixed i) refl is_found
      (λ next_first u shaped_u later_found later_clear. exists_from b (suc i) next_first (push u σ) p (under (shape_of a) Γ) y (Goes-push p Γ InAll σ (shape_of a) u goes shaped_u (omega (arith, small)))
      (omega (arith, small)) fits.1 clears.1 later_found later_clear)
    where
      step : (o : Option ℕ) → fixed_to fixed i ≡ o →
          All (HasGoalShape kinds G ctx kept entries are fixed shaped) (one_likely o (fresh_goal first entries a) (likely_goals entries fixed (suc i) (suc first) b) (likely_goals entries fixed (suc i) first b)) →
          ((next_first : ℕ) (u : LfTerm) → Shaped InAll u (shape_of a) → All (HasGoalShape kinds G ctx kept entries are fixed shaped) (likely_goals entries fixed (suc i) next_first b) → IsClear (push u σ) (suc i) →
          HasOpening (push u σ) (suc i) next_first b) → HasOpening σ i first (pi a b)
      step (Some place) e here later =
          let u = eta (context_variable (length ctx) place) (shape_of a) in
          let r = later first u (shaped_fixed_term kinds G ctx kept entries are fixed shaped i place a e fits.0) here (clear_push u σ i (clear_fixed i place a e fits.0) clear) in
          (arg u r.0, r.1, r.2, opens_fixed place e r.3)
      step None e here later =
          let likely = fresh_goal first entries a in
          let more = likely_goals entries fixed (suc i) (suc first) b in
          let u = expanded (metavariable first) (kept_variables kept (length ctx) entries) (shape_of a) in
          let c = total_type p x InAll σ goes in
          let inside = rename_type (returning kept (length ctx)) c.0 in
          let same : rename_type (keeping kept (length ctx)) inside ≡ c.0 =
          keeping_type kept (length ctx) c.0 (λ h o. let m = mentioned_type c.1 h o in clear h m.0 (clears.0 e m.0 m.1) m.2) in
          let known : G (metavariable first) ≡ Some (arrows (shapes_of_types entries) (shape_of a)) =
          All-head (HasGoalShape kinds G ctx kept entries are fixed shaped) likely more here ∙ ap Some (shape_of-fresh_goal first entries a) in
          let r = later (suc first) u (shaped_fresh_term kinds G ctx kept entries are first (shape_of a) known) (All-tail (HasGoalShape kinds G ctx kept entries are fixed shaped) likely more here)
          (clear_push u σ i (λ h o free. clear_fresh first (shape_of a) h o) clear) in
          (arg u r.0, fresh_goal first entries inside ∷ r.1, r.2, opens_fresh inside e (subst (SubstitutedType σ a) (sym same) c.1) r.3)
