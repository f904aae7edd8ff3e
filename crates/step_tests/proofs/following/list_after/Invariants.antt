use Rattle.lf_definitions.specs.GoalLists.{all_goals}
use Rattle.lf_definitions.specs.ShapedGoals.{ShapedGoals}
use Rattle.meta_goals.specs.GoalsOf.{goals_of}
use Rattle.step_tests.proofs.following.list_after.Given as goal

abbrev pub invariant-loop-word : goal.invariant-loop-word
invariant-loop-word l = ShapedGoals l.book.sig (all_goals (goals_of l.list))
