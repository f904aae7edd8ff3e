-- The laws of opening a type, as they are stated.
use Rattle.std.proofs.Common.{◌≡◌, ℕ, ◌+◌, Bool, true, false, Some, List, [], ◌∷◌, ◌++◌, All, length, refl, sym, ap, ◌∙◌, subst, subst₂, arith}
use Rattle.std.specs.Prelude.{nat_eq, if◌then◌else◌}
use Rattle.std.proofs.lemmas.Bool.{eqb-true}
use Rattle.std.proofs.lemmas.List.Elements.{All-head, All-tail, All-append, All-weaker}
use Rattle.lf_definitions.specs.Syntax.{LfType, Context, shape_of, shapes_of_types, shape_size, binders_of}
use Rattle.lf_definitions.specs.Shaping.{Scope, globals}
use Rattle.lf_definitions.specs.Replacements.{Goes, fits_stays}
use Rattle.lf_definitions.specs.Substitution.{stays}
use Rattle.lf_definitions.specs.Typing.{LfGoal, type_at}
use Rattle.lf_definitions.specs.Signatures.{LfSignature, constant_types}
use Rattle.lf_definitions.specs.ShapedGoals.{shapes_of_goals, kind_shapes_in, scope_in, ShapedGoal}
use Rattle.lf_definitions.proofs.Options.{Some_inj, Some-Some}
use Rattle.lf_definitions.proofs.ShapedGoals.{ShapedContext-grown, ShapedType-grown}
use Rattle.opening_laws.specs.Openings.{is_kept, fixed_to, LfOpened, IsOpened}
use Rattle.opening_laws.specs.Conditions.{FixesArgument, MentionsNone, is_dropped}
use Rattle.opening_laws.specs.Laws.{TypesAreOpened, OpeningsAreShaped}
use Rattle.opening_laws.proofs.Kept.{entries_exist}
use Rattle.opening_laws.proofs.Shapes.{each_argument_of, shaped_from}
use Rattle.opening_laws.proofs.Numbers.{follow_from, found_among, distinct_more, more_goals}
use Rattle.opening_laws.proofs.Existence.{likely_goals, numbered_likely, clear_stays, exists_from}
use Rattle.opening_laws.proofs.Uniqueness.{openings_are_unique}

-- what is true of each pair is true of an argument and the place that it is fixed to
pub fixed_pair : (P : ℕ × ℕ → Type 0) (fixed : List (ℕ × ℕ)) (i place : ℕ) → All P fixed → fixed_to fixed i ≡ Some place → P (i, place)
fixed_pair P [] i place all e = absurd cc
fixed_pair P (pair ∷ rest) i place all e = step (nat_eq pair.0 i) refl e (All-head P pair rest all) (fixed_pair P rest i place (All-tail P pair rest all))
  where
    step : (b : Bool) → nat_eq pair.0 i ≡ b → (if b then Some pair.1 else fixed_to rest i) ≡ Some place → P pair → (fixed_to rest i ≡ Some place → P (i, place)) → P (i, place)
    step true is at_pair here later = subst₂ (λ m n. P (m, n)) (eqb-true pair.0 i is) (Some-Some at_pair) here
    step false is at_pair here later = later at_pair

-- a fixed argument has the shape of its hypothesis
argument_fits : (ctx : Context) (fixed : List (ℕ × ℕ)) (type : LfType) → All (FixesArgument ctx type) fixed → (i : ℕ) (a : LfType) → type_at (binders_of type) i ≡ Some a →
    (place : ℕ) → fixed_to fixed i ≡ Some place → (b : LfType) × (type_at ctx place ≡ Some b) × (shape_of b ≡ shape_of a)
argument_fits ctx fixed type fit i a e place f =
    let p = fixed_pair (FixesArgument ctx type) fixed i place fit f in
    (p.1, p.3, sym p.4 ∙ ap shape_of (Some_inj p.2 e))

-- the scope of the heads but for variables, among some goals
abbrev heads_among : LfSignature → List LfGoal → Scope
heads_among sig goals = globals (shapes_of_types (constant_types sig)) (shapes_of_goals goals)

pub types_are_opened : TypesAreOpened
types_are_opened sig goals ctx kept fixed first type may =
    let kinds = kind_shapes_in sig in
    let constants = shapes_of_types (constant_types sig) in
    let entries = entries_exist kept 0 ctx
    (λ k a. let here : k ≡ 0 + k = omega arith in subst (λ n. is_kept kept n ≡ true → type_at ctx k ≡ Some a → MentionsNone (is_dropped kept n) a) here (may.kept_mention_kept k a)) in
    let likely = likely_goals entries.0 fixed 0 first type in
    let p = shape_size (shape_of type) in
    let shaped = ShapedContext-grown may.context_is_shaped (heads_among sig (goals ++ likely)) (more_goals constants goals likely []) in
    let goes : Goes p (scope_in sig goals ctx) (scope_in sig (goals ++ likely) ctx) stays = λ h s e. fits_stays (more_goals constants goals likely (shapes_of_types ctx) h s e) in
    let r = exists_from kinds (heads_among sig (goals ++ likely)) ctx kept entries.0 entries.1 fixed shaped type 0 first stays p (scope_in sig goals ctx) may.type_is_shaped goes (omega arith)
    (each_argument_of _ type (argument_fits ctx fixed type may.fixed_fit))
    (each_argument_of _ type may.others_mention_kept)
    (found_among likely goals first may.goals_are_below (numbered_likely entries.0 fixed 0 first type))
    (clear_stays kinds (heads_among sig (goals ++ likely)) ctx kept entries.0 entries.1 fixed shaped) in
    let result : LfOpened = record { terms = r.0; fresh = r.1; end = r.2 } in
    let opened : IsOpened ctx kept fixed first type result = record { entries = entries.0; are_kept = entries.1; opened = r.3 } in
    (result, opened, λ other q. openings_are_unique ctx kept fixed first type result other opened q)

pub openings_are_shaped : OpeningsAreShaped
openings_are_shaped sig goals ctx kept fixed first type may result opened =
    let kinds = kind_shapes_in sig in
    let constants = shapes_of_types (constant_types sig) in
    let new = result.fresh in
    let all = goals ++ new in
    let p = shape_size (shape_of type) in
    let numbered = follow_from kept (length ctx) opened.entries fixed opened.opened in
    let shaped = ShapedContext-grown may.context_is_shaped (heads_among sig all) (more_goals constants goals new []) in
    let goes : Goes p (scope_in sig goals ctx) (scope_in sig all ctx) stays = λ h s e. fits_stays (more_goals constants goals new (shapes_of_types ctx) h s e) in
    let r = shaped_from kinds (heads_among sig all) ctx kept opened.entries opened.are_kept fixed shaped opened.opened p (scope_in sig goals ctx) may.type_is_shaped goes (omega arith)
    (each_argument_of _ type (argument_fits ctx fixed type may.fixed_fit))
    (found_among new goals first may.goals_are_below numbered) in
    let grown : (g : LfGoal) → ShapedGoal sig goals g → ShapedGoal sig all g =
    λ g s. (
      ShapedContext-grown s.0 (heads_among sig all) (more_goals constants goals new []),
      ShapedType-grown s.1 (scope_in sig all g.context) (more_goals constants goals new (shapes_of_types g.context)),
    ) in (
      r.0,
      r.1,
      r.2,
      λ s. (distinct_more new goals first may.goals_differ may.goals_are_below numbered, All-append (ShapedGoal sig all) goals new (All-weaker (ShapedGoal sig goals) (ShapedGoal sig all) grown goals s.1) r.2),
    )
