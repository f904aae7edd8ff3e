use Rattle.std.proofs.Common.{◌≡◌, take, map}
use Rattle.lf_definitions.specs.ShapedGoals.{shapes_of_goals}
use Rattle.lf_terms.specs.Shapes.{metas_of}
use Rattle.lf_terms.specs.Targets.{goal_of}
use Rattle.lf_terms.proofs.goal.shapes_of_metas.Given as goal

abbrev pub invariant-loop-goal : goal.invariant-loop-goal
invariant-loop-goal l = metas_of l.shapes.items ≡ shapes_of_goals (map goal_of (take l.goal-index l.items))
