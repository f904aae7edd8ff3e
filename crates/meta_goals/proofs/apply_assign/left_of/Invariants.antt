use Rattle.std.proofs.Common.{take, map}
use Rattle.lf_terms.specs.Targets.{goal_of}
use Rattle.goal_lists.specs.Assigning.{Leaves}
use Rattle.meta_goals.specs.Bindings.{assigning}
use Rattle.meta_goals.proofs.apply_assign.left_of.Given as goal

abbrev pub invariant-loop-i : goal.invariant-loop-i
invariant-loop-i l = Leaves (assigning l.sigma) (map goal_of (take l.i l.items)) l.left
