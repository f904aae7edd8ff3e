-- Assignments that take one list of goals to another.
use Rattle.std.specs.Prelude.{◌≡◌, ◌≢◌, ◌↔◌, ℕ, List, Some, None, All, AllPairs, Contains}
use Rattle.lf_definitions.specs.ShapedGoals.{ShapedGoals}
use Rattle.lf_definitions.specs.Typing.{LfGoal}
use Rattle.lf_definitions.specs.Signatures.{LfSignature}
use Rattle.lf_definitions.specs.GoalLists.{LfGoals, all_goals, ids}
use Rattle.lf_definitions.specs.Instantiation.{LfAssigned, assignment_of}
use Rattle.head_laws.specs.AssignmentLaws.{AssignsClosedTerms}
use Rattle.goal_lists.specs.Laws.{GoesToGoals}
use Rattle.lf_functions.specs.Instances.{instance_of_goal}
use Rattle.applications.specs.Applications.{LfApplication}
use Rattle.alternatives.specs.ListsAfter.{with_new, list_after}

-- What is asked of an application, so that the list after it can be made: with its new goals the list is shaped, and the assignment goes from there to the list after it, by
-- closed terms.
pub record MayBeTaken (sig : LfSignature) (list : LfGoals) (a : LfApplication) : Type 0 where
  pub shaped : ShapedGoals sig (all_goals (with_new list a))
  pub closed : AssignsClosedTerms (assignment_of a.assigned)
  pub goes : GoesToGoals sig (all_goals (with_new list a)) (all_goals (list_after list a)) (assignment_of a.assigned)

pub record Takes (sig : LfSignature) (before after : LfGoals) (build : List LfAssigned) : Type 0 where
  -- The list after is shaped, and the assignment goes to it from the list before, by closed terms.
  pub shaped : ShapedGoals sig (all_goals after)
  pub closed : AssignsClosedTerms (assignment_of build)
  pub goes : GoesToGoals sig (all_goals before) (all_goals after) (assignment_of build)
  -- Each entry is that of a goal of the list before, and no two are of one.
  pub keys : All (λ e. Contains (ids (all_goals before)) e.assigned_goal) build
  pub keys_differ : AllPairs (λ (e : LfAssigned) f. e.assigned_goal ≢ f.assigned_goal) build
  -- A goal of the list before has no entry exactly where it is left, under the assignment.
  pub assigned_or_left : (m : ℕ) → Contains (ids (all_goals before)) m → (assignment_of build m ≡ None) ↔ Contains (ids (all_goals after)) m
  pub left_under : (g h : LfGoal) → Contains (all_goals before) g → Contains (all_goals after) h → h.id ≡ g.id → h ≡ instance_of_goal (all_goals before) (assignment_of build) g
