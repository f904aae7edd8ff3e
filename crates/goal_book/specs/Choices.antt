-- Applications that may be chosen.
use Rattle.std.specs.Prelude.{ℕ, Bool, true, false, not, List, map, filter, flat_map}
use Rattle.lf_definitions.specs.Signatures.{LfSignature}
use Rattle.lf_definitions.specs.GoalLists.{LfGoals}
use Rattle.applications.specs.Methods.{LfLabel}
use Rattle.applications.specs.Applications.{LfApplication}
use Rattle.alternatives.specs.Rules.{LfPhase, normalising, safe, unsafe, LfRule, is_normalising, found_by}
use Rattle.alternatives.specs.Alternatives.{LfLast, unsafely, late, percent_of, chosen_as, ranked}
use Rattle.build_shared.specs.declared.app.App.{App}
use Rattle.build_shared.specs.Seen.{seen_label, seen_application}
use Rattle.goal_book.specs.declared.choices.Choice.{Choice}

-- An application with what is said of it where it is chosen, and its percentage.
pub record LfChoice : Type 0 where
  pub last : LfLast
  pub percent : ℕ
  pub application : LfApplication

-- Whether a rule that is chosen was postponed.
abbrev pub is_late : LfPhase → Bool
is_late normalising = true
is_late safe = true
is_late (unsafe percent) = false

-- what is said of a choice by whether its rule was postponed
abbrev pub last_by : Bool → LfLabel → LfLast
last_by true label = late label
last_by false label = unsafely label

abbrev pub seen_choice : Choice → LfChoice
seen_choice c = record { last = last_by c.late (seen_label c.app.label); percent = c.percent; application = seen_application c.app }

-- an application of a rule of this phase, as a choice
abbrev pub choice_of : LfPhase → LfApplication → LfChoice
choice_of phase a = record { last = chosen_as phase a.label; percent = percent_of phase; application = a }

-- all applications of a rule, as choices
abbrev pub choices_by : LfSignature → ℕ → LfGoals → LfRule → List LfChoice
choices_by sig n goals rule = map (choice_of rule.phase) (found_by sig n goals rule)

abbrev pub may_be_chosen : LfRule → Bool
may_be_chosen rule = not (is_normalising rule.phase)

-- The choices of some rules: by falling percentage, then by rising number of the rule, then in the rule's order.
abbrev pub choices : LfSignature → List LfRule → ℕ → LfGoals → List LfChoice
choices sig rules n goals = flat_map (choices_by sig n goals) (ranked (filter may_be_chosen rules))

-- an application as the code has it, as a choice
abbrev pub as_choice : ℕ → Bool → App → Choice
as_choice percent postponed app = record { app = app; percent = percent; late = postponed }
