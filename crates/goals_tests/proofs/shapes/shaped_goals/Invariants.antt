use Rattle.std.proofs.Common.{All}
use Rattle.head_laws.specs.ReplacementLaws.{ShapedGoalOver}
use Rattle.goals_tests.specs.Settings.{scope_of, kinds_of}
use Rattle.goals_tests.proofs.shapes.shaped_goals.Given as goal

abbrev pub invariant-loop-goal : goal.invariant-loop-goal
invariant-loop-goal l = All (ShapedGoalOver (kinds_of l.setting) (scope_of l.setting l.variables)) l.those
