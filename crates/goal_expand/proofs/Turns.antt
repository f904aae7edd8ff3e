-- What a turn of normalisation makes of what was made.
use Rattle.std.proofs.Common.{◌≡◌, ◌∙◌, ℕ, suc, Bool, true, false, Option, Some, None, List, [], ◌∷◌, ◌++◌, map, refl, sym, ap, subst, arith}
use Rattle.std.specs.Prelude.{length, nat_eq, option_map}
use Rattle.std.specs.Option.{option_to_list}
use Rattle.std.proofs.lemmas.Bool.{ne_eqb}
use Rattle.std.proofs.lemmas.List.{map-append}
use Rattle.std.proofs.lemmas.List.Elements.{All-head}
use Rattle.lf_definitions.specs.Typing.{LfGoal}
use Rattle.lf_definitions.specs.GoalLists.{LfGoals, all_goals, next_id}
use Rattle.applications.specs.Methods.{LfLabel}
use Rattle.applications.specs.Applications.{LfApplication}
use Rattle.meta_goals.specs.Bindings.{LfBinding, assigned_of}
use Rattle.meta_goals.specs.GoalsOf.{goals_of}
use Rattle.meta_goals.specs.Laws.{HaveShapesOf}
use Rattle.alternatives.specs.NormalForms.{has_none, first_lawful, LfNormal, most_normalising, normal_form}
use Rattle.alternatives.specs.Steps.{IsStep}
use Rattle.build_shared.specs.declared.app.App.{App}
use Rattle.build_shared.specs.declared.label.Label.{Label}
use Rattle.build_shared.specs.RuleUses.{KnowShapes}
use Rattle.build_shared.specs.Seen.{seen_label, seen_application}
use Rattle.goal_expand.specs.declared.given.Given.{Given}
use Rattle.goal_expand.specs.declared.progress.Reached.{Reached}
use Rattle.goal_expand.specs.declared.progress.Progress.{Progress}
use Rattle.goal_expand.specs.Reaching.{built, MayGoOn, IsOnTheWay, IsNormal}
use Rattle.goal_expand.specs.Progress.{sig_given, rules_given, list_given, IsGiven, goals_reached, bindings_reached, goals_made, labels_made, IsReachedFrom, MayBeNext, IsOneStep, IsUnderWay, HasEnded, IsAfterTurn}
use Rattle.goal_expand.proofs.NextSteps.{lawful_is_step}
use Rattle.goal_expand.proofs.Reached.{may_be_expanded_on, nothing_before, may_go_on}
use Rattle.goal_expand.proofs.Wholes.{begins, no_turn_left, no_more_lawful, closes_now, goes_on}

-- Where no step was made, what is assigned next is what an application assigns.
pub first_build : (n : ℕ) (list : LfGoals) (reached : Option Reached) (later : List LfBinding) → reached ≡ None →
    MayGoOn n list (goals_reached list reached) (bindings_reached reached) later →
    (map assigned_of later ≡ built list (goals_reached list reached) (bindings_reached reached) later) × HaveShapesOf (all_goals list) later
first_build n list (Some r) later e m = absurd cc
first_build n list None later e m = (nothing_before n list later m, m.later_shapes)

-- Where some step was made, that may follow it.
pub later_build : (n : ℕ) (list : LfGoals) (reached : Option Reached) (later : List LfBinding) (r : Reached) → reached ≡ Some r →
    MayGoOn n list (goals_reached list reached) (bindings_reached reached) later → MayGoOn n list (goals_of r.goals) r.build later
later_build n list reached later r e m = subst (λ o. MayGoOn n list (goals_reached list o) (bindings_reached o) later) e m

-- An application that was found for a list that is the one that was reached.
pub found_at : (find : LfGoals → Option LfApplication) (list goals : LfGoals) → list ≡ goals → (o : Option App) → option_map seen_application o ≡ find list → (r : Option App) → o ≡ r →
    find goals ≡ option_map seen_application r
found_at find list goals e o found r is = ap find (sym e) ∙ sym found ∙ ap (option_map seen_application) is

pub shapes_at : (list goals : LfGoals) → list ≡ goals → (o : Option App) → KnowShapes (all_goals list) (option_to_list o) → (app : App) → o ≡ Some app → HaveShapesOf (all_goals goals) app.assign
shapes_at list goals e o know app is =
    let P : LfGoals → App → Type 0 = λ l a. HaveShapesOf (all_goals l) a.assign in
    subst (λ l. P l app) e (All-head (P list) app [] (subst (λ x. KnowShapes (all_goals list) (option_to_list x)) is know))

-- One more label.
pub one_label : (old new : List Label) (label : Label) → new ≡ old ++ label ∷ [] → map seen_label new ≡ map seen_label old ++ seen_label label ∷ []
one_label old new label e = ap (map seen_label) e ∙ map-append seen_label old (label ∷ [])

-- What is asked for one more application.
pub may_build_on : (g : Given) → IsGiven g → (reached : Option Reached) → IsReachedFrom g reached → (app : App) → MayBeNext g reached app →
    MayGoOn g.first (list_given g) (goals_reached (list_given g) reached) (bindings_reached reached) app.assign
may_build_on g given reached is app next =
    may_go_on (sig_given g) (rules_given g) (list_given g) given.may_expand (goals_reached (list_given g) reached) (bindings_reached reached) is (seen_application app) next.step g.first given.first_is
    app.assign refl next.shapes

-- No goals are left where there are none.
pub none_by_length : (goals : List LfGoal) → nat_eq (length goals) 0 ≡ has_none goals
none_by_length [] = refl
none_by_length (x ∷ xs) = ne_eqb (suc (length xs)) 0 (λ e. omega (arith, e))

-- At the beginning nothing was made.
pub at_first : (g : Given) → IsGiven g → (most : ℕ) → most ≡ most_normalising → (p : Progress) → p.labels.items ≡ [] → p.closed ≡ false → p.reached ≡ None → IsUnderWay g most p
at_first g given most e p labels closed reached = (
  closed,
  let P : List LfLabel → LfGoals → List LfBinding → Type 0 = λ ls goals bs. IsOnTheWay (sig_given g) (rules_given g) (list_given g) most ls goals bs in
      subst (λ r. P (labels_made p) (goals_reached (list_given g) r) (bindings_reached r)) (sym reached)
      (subst (λ ls. P (map seen_label ls) (list_given g) []) (sym labels) (begins (sig_given g) (rules_given g) (list_given g) given.may_expand most e)),
)

abbrev Whole : Given → LfNormal
Whole g = normal_form (sig_given g) (rules_given g) (next_id (list_given g)) (list_given g)

-- Where no turn is left, what was made is the normal form.
pub at_last : (g : Given) → (left : ℕ) → left ≡ 0 → IsGiven g → (p : Progress) → IsUnderWay g left p → HasEnded g p
at_last g left none given p way = (
  subst (λ b. IsNormal (Whole g) (labels_made p) b (goals_made g p) (bindings_reached p.reached)) (sym way.0)
      (no_turn_left (sig_given g) (rules_given g) (list_given g) given.may_expand (labels_made p) (goals_made g p) (bindings_reached p.reached) left none way.1),
  way.1.reached.shapes,
)

module _ (g : Given) (given : IsGiven g) (left : ℕ) (old : Progress) (way : IsUnderWay g (suc left) old) where
  abbrev First : Option LfApplication
  First = first_lawful (sig_given g) (rules_given g) (next_id (goals_made g old)) (goals_made g old)

  pub found_is_step : (a : LfApplication) → first_lawful (sig_given g) (rules_given g) (next_id (goals_made g old)) (goals_made g old) ≡ Some a →
      IsStep (sig_given g) (next_id (goals_made g old)) (goals_made g old) a
  found_is_step =
      lawful_is_step (sig_given g) (rules_given g) (next_id (goals_made g old)) (goals_made g old)
      (may_be_expanded_on (sig_given g) (rules_given g) (list_given g) (goals_made g old) (bindings_reached old.reached) given.may_expand way.1.reached)

  pub ends : first_lawful (sig_given g) (rules_given g) (next_id (goals_made g old)) (goals_made g old) ≡ None → HasEnded g old
  ends none = (
    subst (λ b. IsNormal (Whole g) (labels_made old) b (goals_made g old) (bindings_reached old.reached)) (sym way.0)
        (no_more_lawful (sig_given g) (rules_given g) (list_given g) given.may_expand (labels_made old) (goals_made g old) (bindings_reached old.reached) left none way.1),
    way.1.reached.shapes,
  )

  module _ (app : App) (new : Progress) (found : first_lawful (sig_given g) (rules_given g) (next_id (goals_made g old)) (goals_made g old) ≡ Some (seen_application app))
      (one : IsOneStep (list_given g) app old new) where
    closed_then : has_none app.proofs ≡ true → new.closed ≡ true → HasEnded g new
    closed_then none closed =
        let P : List LfLabel → Bool → LfGoals → Type 0 = λ ls b goals. IsNormal (Whole g) ls b goals (bindings_reached new.reached) in (
          subst (λ ls. P ls new.closed (goals_made g new)) (sym one.labels_are)
              (subst (λ b. P (labels_made old ++ seen_label app.label ∷ []) b (goals_made g new)) (sym closed)
              (subst (λ goals. P (labels_made old ++ seen_label app.label ∷ []) true goals) (sym one.goals_are)
              (closes_now (sig_given g) (rules_given g) (list_given g) given.may_expand (labels_made old) (goals_made g old) (bindings_reached old.reached) way.1.reached (seen_application app)
              (found_is_step (seen_application app) found) left found way.1 (bindings_reached new.reached) one.build_is none))),
          one.shapes,
        )

    onward_then : has_none app.proofs ≡ false → new.closed ≡ false → IsUnderWay g left new
    onward_then some not_closed =
        let P : List LfLabel → LfGoals → Type 0 = λ ls goals. IsOnTheWay (sig_given g) (rules_given g) (list_given g) left ls goals (bindings_reached new.reached) in (
          not_closed,
          subst (λ ls. P ls (goals_made g new)) (sym one.labels_are)
              (subst (λ goals. P (labels_made old ++ seen_label app.label ∷ []) goals) (sym one.goals_are)
              (goes_on (sig_given g) (rules_given g) (list_given g) given.may_expand (labels_made old) (goals_made g old) (bindings_reached old.reached) way.1.reached (seen_application app)
              (found_is_step (seen_application app) found) left found way.1 (bindings_reached new.reached) one.build_is some one.shapes)),
        )

    pub turned : IsAfterTurn g left new.closed new
    turned = each (has_none app.proofs) refl one.closed_is
      where
        each : (b : Bool) → has_none app.proofs ≡ b → new.closed ≡ b → IsAfterTurn g left new.closed new
        each true none closed = subst (λ v. IsAfterTurn g left v new) (sym closed) (closed_then none closed)
        each false some not_closed = subst (λ v. IsAfterTurn g left v new) (sym not_closed) (onward_then some not_closed)
