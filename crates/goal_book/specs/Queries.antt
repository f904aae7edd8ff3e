-- What the rules are asked.
use Rattle.std.specs.Prelude.{◌≢◌, ℕ, ◌<◌, Bool, List, length, filter, find, flat_map, All, AllPairs, Option}
use Rattle.lf_definitions.specs.GoalLists.{all_goals, next_id}
use Rattle.lf_definitions.specs.ShapedGoals.{ShapedGoals}
use Rattle.applications.specs.Applications.{LfApplication}
use Rattle.meta_goals.specs.GoalsOf.{goals_of}
use Rattle.rule_sets.specs.Books.{Book}
use Rattle.rule_sets.specs.Refusals.{IsOver}
use Rattle.alternatives.specs.Rules.{LfPhase, LfRule, is_normalising, is_safe, found_by}
use Rattle.alternatives.specs.NormalForms.{is_lawful}
use Rattle.alternatives.specs.Alternatives.{may_be_committed}
use Rattle.build_shared.specs.declared.app.App.{App}
use Rattle.build_shared.specs.Seen.{seen_application}
use Rattle.goal_book.specs.declared.query.Query.{Query}
use Rattle.goal_book.specs.declared.wanted.Wanted.{Wanted}
use Rattle.goal_book.specs.declared.wanted.Wanted.TheVariants.{Lawful, Safe}
use Rattle.goal_book.specs.Choices.{LfChoice, choices_by}

-- The rules are over the signature, and the goals are shaped.
pub record IsQuery (q : Query) : Type 0 where
  pub over : IsOver q.sig.now q.rules.now
  pub shaped : ShapedGoals q.sig.now (all_goals (goals_of q.goals.now))

-- what a rule finds
abbrev pub found_for : Query → LfRule → List LfApplication
found_for q rule = found_by q.sig.now (next_id (goals_of q.goals.now)) (goals_of q.goals.now) rule

-- what a rule finds, as choices
abbrev pub choices_for : Query → LfRule → List LfChoice
choices_for q rule = choices_by q.sig.now (next_id (goals_of q.goals.now)) (goals_of q.goals.now) rule

-- Each number is that of a rule, and no two are equal.
pub record AreRules (book : Book) (numbers : List ℕ) : Type 0 where
  pub within : All (λ number. number < length book.rules) numbers
  pub differ : AllPairs (λ number other. number ≢ other) numbers

-- whether a rule of this phase is tried
abbrev pub phase_is_tried : Wanted → LfPhase → Bool
phase_is_tried Lawful phase = is_normalising phase
phase_is_tried Safe phase = is_safe phase

abbrev pub is_tried : Wanted → LfRule → Bool
is_tried wanted rule = phase_is_tried wanted rule.phase

-- whether an application serves
abbrev pub serves : Wanted → LfApplication → Bool
serves Lawful a = is_lawful a
serves Safe a = may_be_committed a

abbrev pub app_serves : Wanted → App → Bool
app_serves wanted app = serves wanted (seen_application app)

-- the first application that serves of the first rule that has one
abbrev pub first_wanted : (LfRule → List LfApplication) → Wanted → List LfRule → Option LfApplication
first_wanted finds wanted rules = find (serves wanted) (flat_map finds (filter (is_tried wanted) rules))
