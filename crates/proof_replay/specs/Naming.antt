-- The one application that a step names, and what it leaves.
use Rattle.std.specs.Prelude.{List, map, Option, Some, None, option_map, if◌then◌else◌, find}
use Rattle.lf_definitions.specs.ShapedGoals.{ShapedGoals}
use Rattle.lf_definitions.specs.Signatures.{LfSignature}
use Rattle.lf_definitions.specs.GoalLists.{LfGoals, all_goals, ids, next_id}
use Rattle.lf_definitions.specs.Instantiation.{LfAssigned}
use Rattle.applications.specs.Applications.{LfApplication}
use Rattle.alternatives.specs.Rules.{LfRule}
use Rattle.alternatives.specs.ListsAfter.{list_after, then_assigned}
use Rattle.alternatives.specs.Alternatives.{LfLast, safely, LfAlternative, first_safe}
use Rattle.alternatives.specs.Taking.{Takes}
use Rattle.alternatives.specs.Steps.{AreOldOrNew, IsStep}
use Rattle.derivations.specs.Replays.{same_last}
use Rattle.meta_goals.specs.Bindings.{LfBinding, assigned_of}
use Rattle.meta_goals.specs.GoalsOf.{goals_of}
use Rattle.meta_goals.specs.Laws.{HaveShapesOf}
use Rattle.build_shared.specs.declared.app.App.{App}
use Rattle.build_shared.specs.Seen.{seen_application}
use Rattle.goal_book.specs.Choices.{LfChoice, choices}
use Rattle.proof_replay.specs.declared.next.Next.{Next}

-- the list after an alternative, and what it assigns
abbrev pub left_by : LfAlternative → LfGoals × List LfAssigned
left_by a = (a.goals, a.build)

abbrev pub seen_next : Next → LfGoals × List LfAssigned
seen_next n = (goals_of n.goals, map assigned_of n.build)

-- what is left by an application after a normal form of a list
abbrev pub left_after : LfGoals → LfGoals → List LfAssigned → LfApplication → LfGoals × List LfAssigned
left_after list goals build a = (list_after goals a, then_assigned (ids (all_goals list)) (all_goals goals) build a.assigned)

-- The safe application, where there is one that may be committed, if it is the one that is named, and else the first choice that is.
abbrev pub named_of : LfLast → Option LfApplication → List LfChoice → Option LfApplication
named_of last None cs = option_map (λ c. c.application) (find (λ c. same_last last c.last) cs)
named_of last (Some a) cs = if same_last last (safely a.label) then Some a else None

abbrev pub named_in : LfSignature → List LfRule → LfGoals → LfLast → Option LfApplication
named_in sig rules goals last = named_of last (first_safe sig rules (next_id goals) goals) (choices sig rules (next_id goals) goals)

-- An application is a step from a list that was reached from shaped goals, and all entries have the shapes of their goals' contexts.
pub record MayCome (sig : LfSignature) (list goals : LfGoals) (build : List LfBinding) (app : App) : Type 0 where
  pub shaped : ShapedGoals sig (all_goals list)
  pub takes : Takes sig list goals (map assigned_of build)
  pub shapes : HaveShapesOf (all_goals list) build
  pub old_or_new : AreOldOrNew list (next_id list) goals
  pub step : IsStep sig (next_id goals) goals (seen_application app)
  pub app_shapes : HaveShapesOf (all_goals goals) app.assign
