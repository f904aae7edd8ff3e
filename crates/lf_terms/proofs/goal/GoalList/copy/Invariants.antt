use Rattle.std.proofs.Common.{◌≡◌, take, map}
use Rattle.lf_terms.specs.Targets.{goal_of}
use Rattle.lf_terms.proofs.goal.GoalList.copy.Given as goal

abbrev pub invariant-loop-goal : goal.invariant-loop-goal
invariant-loop-goal l = map goal_of l.copies.items ≡ map goal_of (take l.goal-index l.goals)
