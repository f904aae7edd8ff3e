-- Alternatives are reached.
use Rattle.std.proofs.Common.{◌≡◌, ℕ, Bool, true, false, Option, Some, None, List, [], ◌∷◌, All, refl}
use Rattle.std.specs.Prelude.{not, if◌then◌else◌, filter, flat_map}
use Rattle.std.proofs.lemmas.List.Elements.{All-nil, All-cons, All-weaker, All-map, All-filter}
use Rattle.lf_definitions.specs.Signatures.{LfSignature}
use Rattle.lf_definitions.specs.GoalLists.{LfGoals}
use Rattle.applications.specs.Applications.{LfApplication}
use Rattle.alternatives.specs.Rules.{LfRule, is_normalising, is_safe, found_by}
use Rattle.alternatives.specs.ListsAfter.{list_after}
use Rattle.alternatives.specs.NormalForms.{LfNormal, normal_form}
use Rattle.alternatives.specs.Alternatives.{LfLast, safely, LfAlternative, taken, may_be_committed, first_safe, percent_of, chosen_as, ranked, choices_of, committed_or_chosen, as_done, alternatives}
use Rattle.alternatives.specs.Taking.{Takes}
use Rattle.alternatives.specs.Steps.{AreOldOrNew, IsStep}
use Rattle.alternatives.specs.Reaching.{MayBeExpanded, IsReached}
use Rattle.step_laws.specs.Laws.{ApplicationsAreSteps}
use Rattle.build_laws.proofs.Laws.{assignments_follow}
use Rattle.taken_alternatives.specs.Laws.{AlternativesAreReached}
use Rattle.taken_alternatives.proofs.Lists.{All-find, All-flat_map, All-ranked}
use Rattle.taken_alternatives.proofs.Numbers.{no_number_back, old_or_new_on}
use Rattle.taken_alternatives.proofs.NormalForms.{all_steps, normal_forms_are_reached}

module _ (steps : ApplicationsAreSteps) (sig : LfSignature) (rules : List LfRule) (n : ℕ) (list : LfGoals) (may : MayBeExpanded sig rules n list) (normal : LfNormal) (reached : IsReached sig n list normal) where
  abbrev IsTaken : LfAlternative → Type 0
  IsTaken alternative = Takes sig list alternative.goals alternative.build × AreOldOrNew list n alternative.goals

  -- One more application goes on from the normal form.
  one_more : (last : LfLast) (percent : ℕ) (a : LfApplication) → IsStep sig normal.fresh normal.goals a → IsTaken (taken list normal last percent a)
  one_more last percent a step =
      let after = list_after normal.goals a in (
        (assignments_follow sig list normal.goals after normal.build a.assigned may.goals reached.takes step.takes
            (no_number_back list normal.goals after n normal.fresh reached.rises reached.old_or_new step.old_or_new may.below)).0,
        old_or_new_on list normal.goals after n normal.fresh reached.rises reached.old_or_new step.old_or_new,
      )

  -- all applications there
  all_found : All (λ rule. All (IsStep sig normal.fresh normal.goals) (found_by sig normal.fresh normal.goals rule)) rules
  all_found =
      all_steps steps sig rules normal.fresh normal.goals
      (record { signature = may.signature; goals = reached.takes.shaped; below = reached.below; rules_take_atoms = may.rules_take_atoms })

  choices_are_taken : (rule : LfRule) → All (IsStep sig normal.fresh normal.goals) (found_by sig normal.fresh normal.goals rule) → All IsTaken (choices_of sig list normal rule)
  choices_are_taken rule all =
      let as_choice = λ (a : LfApplication). taken list normal (chosen_as rule.phase a.label) (percent_of rule.phase) a in
      All-map IsTaken as_choice (found_by sig normal.fresh normal.goals rule)
      (All-weaker (IsStep sig normal.fresh normal.goals) (λ a. IsTaken (as_choice a)) (λ a step. one_more (chosen_as rule.phase a.label) (percent_of rule.phase) a step) (found_by sig normal.fresh normal.goals rule) all)

  first_safe_is_step : (a : LfApplication) → first_safe sig rules normal.fresh normal.goals ≡ Some a → IsStep sig normal.fresh normal.goals a
  first_safe_is_step a e =
      let found = found_by sig normal.fresh normal.goals in
      let safe_rules = filter (λ rule. is_safe rule.phase) rules in
      All-find (IsStep sig normal.fresh normal.goals) may_be_committed (flat_map found safe_rules)
      (All-flat_map (IsStep sig normal.fresh normal.goals) found safe_rules (All-filter (λ rule. is_safe rule.phase) (λ rule. All (IsStep sig normal.fresh normal.goals) (found rule)) rules all_found)) a e

  committed_or_chosen_are_taken : (o : Option LfApplication) → ((a : LfApplication) → o ≡ Some a → IsStep sig normal.fresh normal.goals a) → All IsTaken (committed_or_chosen sig rules list normal o)
  committed_or_chosen_are_taken (Some a) step = All-cons IsTaken (taken list normal (safely a.label) 100 a) [] (one_more (safely a.label) 100 a (step a refl)) (All-nil IsTaken)
  committed_or_chosen_are_taken None step =
      let others = filter (λ rule. not (is_normalising rule.phase)) rules in
      let AreSteps : LfRule → Type 0 = λ rule. All (IsStep sig normal.fresh normal.goals) (found_by sig normal.fresh normal.goals rule) in
      All-flat_map IsTaken (choices_of sig list normal) (ranked others)
      (All-weaker AreSteps (λ rule. All IsTaken (choices_of sig list normal rule)) choices_are_taken (ranked others) (All-ranked AreSteps others (All-filter (λ rule. not (is_normalising rule.phase)) AreSteps rules all_found)))

  each_is_taken : (closed : Bool) → All IsTaken (if closed then as_done normal ∷ [] else committed_or_chosen sig rules list normal (first_safe sig rules normal.fresh normal.goals))
  each_is_taken true = All-cons IsTaken (as_done normal) [] (reached.takes, reached.old_or_new) (All-nil IsTaken)
  each_is_taken false = committed_or_chosen_are_taken (first_safe sig rules normal.fresh normal.goals) first_safe_is_step

pub alternatives_are_reached : ApplicationsAreSteps → AlternativesAreReached
unfolding alternatives
alternatives_are_reached steps sig rules n list may =
    let normal = normal_form sig rules n list in
    each_is_taken steps sig rules n list may normal (normal_forms_are_reached steps sig rules n list may).1 normal.closed
