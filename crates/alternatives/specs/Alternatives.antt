-- The alternatives of a list of goals.
use Rattle.std.specs.Prelude.{ℕ, Bool, true, false, not, ◌&&◌, ◌||◌, List, [], ◌∷◌, map, Option, Some, None, if◌then◌else◌, nat_eq, ltb, filter, find, flat_map}
use Rattle.lf_definitions.specs.Signatures.{LfSignature}
use Rattle.lf_definitions.specs.GoalLists.{LfGoals, all_goals, ids}
use Rattle.lf_definitions.specs.Instantiation.{LfAssigned}
use Rattle.applications.specs.Methods.{LfLabel}
use Rattle.applications.specs.Applications.{LfApplication}
use Rattle.alternatives.specs.Rules.{LfPhase, normalising, safe, unsafe, LfRule, is_normalising, is_safe, found_by}
use Rattle.alternatives.specs.ListsAfter.{list_after, then_assigned}
use Rattle.alternatives.specs.NormalForms.{LfNormal, normal_form}

-- how the goal that is left after normalisation was treated: it was closed; a safe rule was committed; an unsafe rule was chosen; a safe rule was postponed to the choices
pub data LfLast : Type 0 where
  done : LfLast
  safely : LfLabel → LfLast
  unsafely : LfLabel → LfLast
  late : LfLabel → LfLast

-- The labels of normalisation, the last step, the percentage, the list after all of them, and their whole assignment to goals of the list before.
pub record LfAlternative : Type 0 where
  pub norm : List LfLabel
  pub last : LfLast
  pub percent : ℕ
  pub goals : LfGoals
  pub build : List LfAssigned

-- a normal form with one more application
abbrev pub taken : LfGoals → LfNormal → LfLast → ℕ → LfApplication → LfAlternative
taken list normal last percent a = record {
  norm = normal.labels;
  last = last;
  percent = percent;
  goals = list_after normal.goals a;
  build = then_assigned (ids (all_goals list)) (all_goals normal.goals) normal.build a.assigned;
}

-- an application that may be committed: it assigns no goal but the first
abbrev pub may_be_committed : LfApplication → Bool
may_be_committed a = not a.assigns_others

-- the first such application of the first safe rule that has one
abbrev pub first_safe : LfSignature → List LfRule → ℕ → LfGoals → Option LfApplication
first_safe sig rules n list = find may_be_committed (flat_map (found_by sig n list) (filter (λ rule. is_safe rule.phase) rules))

-- the percentage of a rule as a choice
abbrev pub percent_of : LfPhase → ℕ
percent_of normalising = 0
percent_of safe = 90
percent_of (unsafe percent) = percent

abbrev pub chosen_as : LfPhase → LfLabel → LfLast
chosen_as normalising label = late label
chosen_as safe label = late label
chosen_as (unsafe percent) label = unsafely label

-- A rule is ranked before another by a higher percentage, or by a lower number.
abbrev pub ranks_before : LfRule → LfRule → Bool
ranks_before rule other =
    ltb (percent_of other.phase) (percent_of rule.phase)
    || (nat_eq (percent_of other.phase) (percent_of rule.phase) && ltb rule.number other.number)

abbrev pub ranked_with : LfRule → List LfRule → List LfRule
ranked_with rule [] = rule ∷ []
ranked_with rule (other ∷ rest) = if ranks_before other rule then other ∷ ranked_with rule rest else rule ∷ other ∷ rest

abbrev pub ranked : List LfRule → List LfRule
ranked [] = []
ranked (rule ∷ rest) = ranked_with rule (ranked rest)

-- all applications of a rule, each as a choice
abbrev pub choices_of : LfSignature → LfGoals → LfNormal → LfRule → List LfAlternative
choices_of sig list normal rule =
    map (λ a. taken list normal (chosen_as rule.phase a.label) (percent_of rule.phase) a) (found_by sig normal.fresh normal.goals rule)

abbrev pub committed_or_chosen : LfSignature → List LfRule → LfGoals → LfNormal → Option LfApplication → List LfAlternative
committed_or_chosen sig rules list normal (Some a) = taken list normal (safely a.label) 100 a ∷ []
committed_or_chosen sig rules list normal None = flat_map (choices_of sig list normal) (ranked (filter (λ rule. not (is_normalising rule.phase)) rules))

-- a normal form as the one alternative
abbrev pub as_done : LfNormal → LfAlternative
as_done normal = record { norm = normal.labels; last = done; percent = 100; goals = normal.goals; build = normal.build }

-- Where normalisation closed the goal, that is the one alternative. Else the first safe application that may be committed is. Else all applications of unsafe and safe rules
-- are, by falling percentage, then by rising number of the rule, then in the rule's order.
abbrev pub alternatives_from : LfSignature → List LfRule → LfGoals → LfNormal → List LfAlternative
alternatives_from sig rules list normal =
    if normal.closed then as_done normal ∷ []
    else committed_or_chosen sig rules list normal (first_safe sig rules normal.fresh normal.goals)

-- The alternatives of a list of goals whose numbers are below `n`.
unfoldable pub alternatives : LfSignature → List LfRule → ℕ → LfGoals → List LfAlternative
alternatives sig rules n list = alternatives_from sig rules list (normal_form sig rules n list)
