-- Where a type may be opened, the function gives the one opening.
use Rattle.std.proofs.Common.{◌≡◌, ℕ, suc, ◌≤◌, Option, Some, List, [], ◌∷◌, ◌++◌, All, length, refl, sym, ap, ap₂, ◌∙◌, subst, arith}
use Rattle.std.specs.Prelude.{if◌then◌else◌}
use Rattle.std.proofs.lemmas.List.Elements.{All-head, All-tail}
use Rattle.lf_definitions.specs.Syntax.{metavariable, Spine, no_args, SimpleType, arrows, LfType, LfAtom, Context, shape_of, shapes_of_types, shape_size, binders_of}
use Rattle.lf_definitions.specs.Renaming.{rename_type}
use Rattle.lf_definitions.specs.Shaping.{Scope, under, Shaped, ShapedType, shaped_pi, shaped_family, globals}
use Rattle.lf_definitions.specs.Substitution.{stays, Replacement}
use Rattle.lf_definitions.specs.Replacements.{Goes, fits_stays}
use Rattle.lf_definitions.specs.Expansion.{eta}
use Rattle.lf_definitions.specs.Typing.{LfGoal, type_at}
use Rattle.lf_definitions.specs.Signatures.{LfSignature, constant_types}
use Rattle.lf_definitions.specs.ShapedGoals.{shapes_of_goals, kind_shapes_in, scope_in, ShapedContext}
use Rattle.lf_definitions.proofs.Options.{Some_inj}
use Rattle.lf_definitions.proofs.ShapedGoals.{ShapedContext-grown}
use Rattle.lf_definitions.proofs.Totality.{Goes-push}
use Rattle.lf_definitions.proofs.Types.{shape_of-rename_type, shape_of-SubstitutedType}
use Rattle.lf_definitions.proofs.Uniqueness.{unique_spine, unique_type}
use Rattle.typing_laws.specs.EtaLaws.{expanded}
use Rattle.opening_laws.specs.Openings.{context_variable, keeping, returning, AreKept, kept_nothing, kept_entry, dropped_entry, fixed_to, fresh_goal, kept_variables, IsOpenedFrom, opens_conclusion, opens_fixed, opens_fresh, LfOpened, IsOpened}
use Rattle.opening_laws.specs.Conditions.{FixesArgument, MayBeOpened}
use Rattle.opening_laws.proofs.Kept.{returning_type}
use Rattle.opening_laws.proofs.Shapes.{EachArgument, each_argument_of, AllShapes, FitsHypothesis, HasGoalShape, shaped_fixed_term, shaped_fresh_term, shape_of-fresh_goal}
use Rattle.opening_laws.proofs.Numbers.{follow_from, found_among, more_goals}
use Rattle.opening_laws.proofs.Laws.{fixed_pair, types_are_opened}
use Rattle.lf_functions.specs.Replacing.{replaced_in_type}
use Rattle.lf_functions.proofs.Replaced.{SubstitutedSpine-replaced_in_spine, SubstitutedType-replaced_in_type}
use Rattle.applications.specs.OpenedTypes.{kept_entries, with_term, with_goal, opened_at, opened_from, opening_of}
use Rattle.applications.specs.Laws.{OpeningsAreFunctions}
use Rattle.applications.proofs.RenamedParts.{atom_by_parts}

-- the kept entries are those that the relation gives
kept_entries-is : {kept : List ℕ} {place : ℕ} {ctx entries : Context} → AreKept kept place ctx entries → kept_entries kept place ctx ≡ entries
kept_entries-is kept_nothing = refl
kept_entries-is {kept} (kept_entry {place = place} {a = a} {b = b} {ctx = ctx} {entries = entries} is e rest) =
    ap (λ c. if c then rename_type (returning kept place) a ∷ kept_entries kept (suc place) ctx else kept_entries kept (suc place) ctx) is
    ∙ ap₂ (λ c more. c ∷ more) (ap (rename_type (returning kept place)) (sym e) ∙ returning_type kept place b) (kept_entries-is rest)
kept_entries-is {kept} (dropped_entry {place = place} {a = a} {ctx = ctx} is rest) =
    ap (λ c. if c then rename_type (returning kept place) a ∷ kept_entries kept (suc place) ctx else kept_entries kept (suc place) ctx) is ∙ kept_entries-is rest

abbrev opened_with : Spine → List LfGoal → LfAtom → LfOpened
opened_with ts goals last = record { terms = ts; fresh = goals; end = last }

module _ (kinds : ℕ → Option SimpleType) (G : Scope) (ctx : Context) (kept : List ℕ) (entries : Context) (are : AreKept kept 0 ctx entries) (fixed : List (ℕ × ℕ)) (shaped : ShapedContext kinds G ctx) where
  abbrev InAll : Scope
  InAll = AllShapes kinds G ctx kept entries are

  abbrev Fits : ℕ → LfType → Type 0
  Fits = FitsHypothesis kinds G ctx kept entries are fixed shaped

  abbrev IsFound : LfGoal → Type 0
  IsFound = HasGoalShape kinds G ctx kept entries are fixed shaped

  opened_from-is : {σ : Replacement} {i first : ℕ} {type : LfType} {ts : Spine} {goals : List LfGoal} {last : LfAtom} → IsOpenedFrom kept (length ctx) entries fixed σ i first type ts goals last →
      (p : ℕ) (Γ : Scope) → ShapedType kinds Γ type → Goes p Γ InAll σ → shape_size (shape_of type) ≤ p → EachArgument Fits i type → All IsFound goals →
      opened_from p kept (length ctx) entries fixed i type σ first ≡ opened_with ts goals last
  opened_from-is (opens_conclusion {σ = σ} {f = f} put) p Γ (shaped_family s e args) goes small fits is_found =
      ap (λ rs. opened_with no_args [] (atom_by_parts f rs)) (unique_spine (SubstitutedSpine-replaced_in_spine p args InAll σ goes) put)
  opened_from-is (opens_fixed {σ = σ} {i = i} {first = first} {a = a} {b = b} place e rest) p Γ (shaped_pi x y) goes small fits is_found =
      let u = eta (context_variable (length ctx) place) (shape_of a) in
      let shaped_u : Shaped InAll u (shape_of a) = shaped_fixed_term kinds G ctx kept entries are fixed shaped i place a e fits.0 in
      ap (λ o. opened_at p kept (length ctx) entries σ first o a (opened_from p kept (length ctx) entries fixed (suc i) b)) e
      ∙ ap (with_term u) (opened_from-is rest p (under (shape_of a) Γ) y (Goes-push p Γ InAll σ (shape_of a) u goes shaped_u (omega (arith, small))) (omega (arith, small)) fits.1 is_found)
  opened_from-is (opens_fresh {σ = σ} {i = i} {first = first} {a = a} {b = b} {goals = goals} inside e put rest) p Γ (shaped_pi x y) goes small fits is_found =
      let g = fresh_goal first entries inside in
      let u = expanded (metavariable first) (kept_variables kept (length ctx) entries) (shape_of a) in
      let shape : shape_of inside ≡ shape_of a = sym (shape_of-rename_type inside (keeping kept (length ctx))) ∙ shape_of-SubstitutedType put in
      let known : G (metavariable first) ≡ Some (arrows (shapes_of_types entries) (shape_of a)) =
      All-head IsFound g goals is_found ∙ ap Some (shape_of-fresh_goal first entries inside ∙ ap (arrows (shapes_of_types entries)) shape) in
      let shaped_u : Shaped InAll u (shape_of a) = shaped_fresh_term kinds G ctx kept entries are first (shape_of a) known in
      let here : rename_type (returning kept (length ctx)) (replaced_in_type p σ a) ≡ inside =
      ap (rename_type (returning kept (length ctx))) (unique_type (SubstitutedType-replaced_in_type p x InAll σ goes) put) ∙ returning_type kept (length ctx) inside in
      ap (λ o. opened_at p kept (length ctx) entries σ first o a (opened_from p kept (length ctx) entries fixed (suc i) b)) e
      ∙ ap₂ (with_goal u first entries) here
      (opened_from-is rest p (under (shape_of a) Γ) y (Goes-push p Γ InAll σ (shape_of a) u goes shaped_u (omega (arith, small))) (omega (arith, small)) fits.1 (All-tail IsFound g goals is_found))

-- an argument that is fixed has the shape of its hypothesis
fits_argument : (ctx : Context) (fixed : List (ℕ × ℕ)) (type : LfType) → All (FixesArgument ctx type) fixed → (i : ℕ) (a : LfType) → type_at (binders_of type) i ≡ Some a →
    (place : ℕ) → fixed_to fixed i ≡ Some place → (b : LfType) × (type_at ctx place ≡ Some b) × (shape_of b ≡ shape_of a)
fits_argument ctx fixed type fit i a e place f =
    let p = fixed_pair (FixesArgument ctx type) fixed i place fit f in
    (p.1, p.3, sym p.4 ∙ ap shape_of (Some_inj p.2 e))

opening_of-is : (sig : LfSignature) (goals : List LfGoal) (ctx : Context) (kept : List ℕ) (fixed : List (ℕ × ℕ)) (first : ℕ) (type : LfType) → MayBeOpened sig goals ctx kept fixed first type →
    (result : LfOpened) → IsOpened ctx kept fixed first type result → opening_of ctx kept fixed first type ≡ result
unfolding opening_of
opening_of-is sig goals ctx kept fixed first type may result opened =
    let constants = shapes_of_types (constant_types sig) in
    let all = goals ++ result.fresh in
    let G : Scope = globals constants (shapes_of_goals all) in
    let p = shape_size (shape_of type) in
    let shaped = ShapedContext-grown may.context_is_shaped G (more_goals constants goals result.fresh []) in
    let goes : Goes p (scope_in sig goals ctx) (scope_in sig all ctx) stays = λ h s e. fits_stays (more_goals constants goals result.fresh (shapes_of_types ctx) h s e) in
    ap (λ es. opened_from p kept (length ctx) es fixed 0 type stays first) (kept_entries-is opened.are_kept)
    ∙ opened_from-is (kind_shapes_in sig) G ctx kept opened.entries opened.are_kept fixed shaped opened.opened p (scope_in sig goals ctx) may.type_is_shaped goes (omega arith)
    (each_argument_of _ type (fits_argument ctx fixed type may.fixed_fit))
    (found_among result.fresh goals first may.goals_are_below (follow_from kept (length ctx) opened.entries fixed opened.opened))

pub openings_are_functions : OpeningsAreFunctions
openings_are_functions sig goals ctx kept fixed first type may =
    let r = types_are_opened sig goals ctx kept fixed first type may in
    let is = opening_of-is sig goals ctx kept fixed first type may r.0 r.1 in
    λ x. ((λ p. r.2 x p ∙ sym is), (λ e. subst (IsOpened ctx kept fixed first type) (sym (e ∙ is)) r.1))
