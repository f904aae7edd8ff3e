-- Alternatives keep types.
use Rattle.std.proofs.Common.{◌≡◌, ℕ, Bool, true, false, Option, Some, None, List, [], ◌∷◌, All, refl}
use Rattle.std.specs.Prelude.{not, if◌then◌else◌, filter, flat_map}
use Rattle.std.proofs.lemmas.List.Elements.{All-nil, All-cons, All-weaker, All-map, All-filter}
use Rattle.lf_definitions.specs.Signatures.{LfSignature}
use Rattle.lf_definitions.specs.GoalLists.{LfGoals}
use Rattle.applications.specs.Applications.{LfApplication}
use Rattle.alternatives.specs.Rules.{LfRule, is_normalising, is_safe, found_by}
use Rattle.alternatives.specs.ListsAfter.{list_after}
use Rattle.alternatives.specs.NormalForms.{LfNormal, normal_form}
use Rattle.alternatives.specs.Alternatives.{LfLast, safely, LfAlternative, taken, may_be_committed, first_safe, percent_of, chosen_as, ranked, choices_of, committed_or_chosen, as_done, alternatives}
use Rattle.alternatives.specs.Reaching.{IsReached}
use Rattle.taken_alternatives.proofs.Laws.{normal_forms_are_reached}
use Rattle.taken_alternatives.proofs.Lists.{All-find, All-flat_map, All-ranked}
use Rattle.taken_alternatives.proofs.Numbers.{no_number_back}
use Rattle.typed_steps.specs.Laws.{KeepsTypes, MayBeTyped, AlternativesKeepTypes}
use Rattle.typed_steps.proofs.Following.{keeping_follows}
use Rattle.typed_steps.proofs.NormalForms.{as_expanded, StepsWell, all_step_well, normal_forms_keep_types}

module _ (sig : LfSignature) (rules : List LfRule) (n : ℕ) (list : LfGoals) (may : MayBeTyped sig rules n list) (normal : LfNormal) (reached : IsReached sig n list normal)
    (kept : KeepsTypes sig list normal.goals normal.build) where
  abbrev Keeps : LfAlternative → Type 0
  Keeps alternative = KeepsTypes sig list alternative.goals alternative.build

  abbrev Well : LfApplication → Type 0
  Well = StepsWell sig normal.fresh normal.goals

  -- One more application goes on from the normal form.
  one_more : (last : LfLast) (percent : ℕ) (a : LfApplication) → Well a → Keeps (taken list normal last percent a)
  one_more last percent a well =
      keeping_follows sig list normal.goals (list_after normal.goals a) normal.build a.assigned reached.takes well.0.takes
      (no_number_back list normal.goals (list_after normal.goals a) n normal.fresh reached.rises reached.old_or_new well.0.old_or_new may.below) kept well.1

  all_well : All (λ rule. All Well (found_by sig normal.fresh normal.goals rule)) rules
  all_well = all_step_well sig rules normal.fresh normal.goals (record { signature = may.signature; goals = kept.formed; below = reached.below; rules_take_atoms = may.rules_take_atoms })

  choices_keep : (rule : LfRule) → All Well (found_by sig normal.fresh normal.goals rule) → All Keeps (choices_of sig list normal rule)
  choices_keep rule all =
      let as_choice = λ (a : LfApplication). taken list normal (chosen_as rule.phase a.label) (percent_of rule.phase) a in
      All-map Keeps as_choice (found_by sig normal.fresh normal.goals rule)
      (All-weaker Well (λ a. Keeps (as_choice a)) (λ a well. one_more (chosen_as rule.phase a.label) (percent_of rule.phase) a well) (found_by sig normal.fresh normal.goals rule) all)

  first_safe_well : (a : LfApplication) → first_safe sig rules normal.fresh normal.goals ≡ Some a → Well a
  first_safe_well a e =
      let found = found_by sig normal.fresh normal.goals in
      let safe_rules = filter (λ rule. is_safe rule.phase) rules in
      All-find Well may_be_committed (flat_map found safe_rules) (All-flat_map Well found safe_rules (All-filter (λ rule. is_safe rule.phase) (λ rule. All Well (found rule)) rules all_well)) a e

  committed_or_chosen_keep : (o : Option LfApplication) → ((a : LfApplication) → o ≡ Some a → Well a) → All Keeps (committed_or_chosen sig rules list normal o)
  committed_or_chosen_keep (Some a) well = All-cons Keeps (taken list normal (safely a.label) 100 a) [] (one_more (safely a.label) 100 a (well a refl)) (All-nil Keeps)
  committed_or_chosen_keep None well =
      let others = filter (λ rule. not (is_normalising rule.phase)) rules in
      let AreWell : LfRule → Type 0 = λ rule. All Well (found_by sig normal.fresh normal.goals rule) in
      All-flat_map Keeps (choices_of sig list normal) (ranked others)
      (All-weaker AreWell (λ rule. All Keeps (choices_of sig list normal rule)) choices_keep (ranked others) (All-ranked AreWell others (All-filter (λ rule. not (is_normalising rule.phase)) AreWell rules all_well)))

  each_keeps : (closed : Bool) → All Keeps (if closed then as_done normal ∷ [] else committed_or_chosen sig rules list normal (first_safe sig rules normal.fresh normal.goals))
  each_keeps true = All-cons Keeps (as_done normal) [] kept (All-nil Keeps)
  each_keeps false = committed_or_chosen_keep (first_safe sig rules normal.fresh normal.goals) first_safe_well

pub alternatives_keep_types : AlternativesKeepTypes
unfolding alternatives
alternatives_keep_types sig rules n list may =
    let normal = normal_form sig rules n list in
    each_keeps sig rules n list may normal (normal_forms_are_reached sig rules n list (as_expanded sig rules n list may)).1 (normal_forms_keep_types sig rules n list may).1 normal.closed
