-- A list with no goal has no application, and so it is its own normal form and has no alternative.
use Rattle.std.proofs.Common.{◌≡◌, ℕ, zero, suc, false, not, None, List, [], filter, find, refl, ap, ◌∙◌, map}
use Rattle.lf_definitions.specs.GoalLists.{LfGoals, all_goals, first_of}
use Rattle.lf_definitions.specs.Signatures.{LfSignature}
use Rattle.applications.specs.Applications.{at_first}
use Rattle.alternatives.specs.Rules.{LfRule, is_normalising, is_safe, found_by}
use Rattle.alternatives.specs.NormalForms.{is_lawful, first_lawful, stopped, step_or_stop, normal_within, most_normalising, normal_form}
use Rattle.alternatives.specs.Alternatives.{taken, may_be_committed, first_safe, percent_of, chosen_as, ranked, choices_of, committed_or_chosen, alternatives_from, alternatives}
use Rattle.derivations.specs.Laws.{NoGoalHasNoAlternative}
use Rattle.derivations.proofs.Lists.{flat_map_none}

module _ (sig : LfSignature) (rules : List LfRule) (n : ℕ) (list : LfGoals) (none : all_goals list ≡ []) where
  nothing_found : (rule : LfRule) → found_by sig n list rule ≡ []
  nothing_found rule = ap (λ o. at_first sig rule.number rule.method n (all_goals list) o) (ap first_of none)

  pub nothing_normalises : first_lawful sig rules n list ≡ None
  nothing_normalises = ap (find is_lawful) (flat_map_none (found_by sig n list) nothing_found (filter (λ rule. is_normalising rule.phase) rules))

  pub nothing_is_safe : first_safe sig rules n list ≡ None
  nothing_is_safe = ap (find may_be_committed) (flat_map_none (found_by sig n list) nothing_found (filter (λ rule. is_safe rule.phase) rules))

  normal_is_list : (most : ℕ) → normal_within most sig rules n list ≡ stopped false n list
  normal_is_list zero = refl
  normal_is_list (suc most) = ap (step_or_stop n list (normal_within most sig rules)) nothing_normalises

  pub normal_form_is_list : normal_form sig rules n list ≡ stopped false n list
  unfolding normal_form
  normal_form_is_list = normal_is_list most_normalising

  no_choice : (rule : LfRule) → choices_of sig list (stopped false n list) rule ≡ []
  no_choice rule = ap (map (λ a. taken list (stopped false n list) (chosen_as rule.phase a.label) (percent_of rule.phase) a)) (nothing_found rule)

  none_from_list : alternatives_from sig rules list (stopped false n list) ≡ []
  none_from_list =
      ap (committed_or_chosen sig rules list (stopped false n list)) nothing_is_safe
      ∙ flat_map_none (choices_of sig list (stopped false n list)) no_choice (ranked (filter (λ rule. not (is_normalising rule.phase)) rules))

  pub no_alternative : alternatives sig rules n list ≡ []
  unfolding alternatives
  no_alternative = ap (alternatives_from sig rules list) normal_form_is_list ∙ none_from_list

pub no_goal_has_no_alternative : NoGoalHasNoAlternative
no_goal_has_no_alternative sig rules n list none = no_alternative sig rules n list none
