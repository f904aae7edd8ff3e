use Rattle.std.proofs.Common.{◌≡◌, take, map}
use Rattle.lf_terms.specs.Targets.{goal_of}
use Rattle.lf_terms.proofs.goal.same_goals.Given as goal

abbrev pub invariant-loop-i : goal.invariant-loop-i
invariant-loop-i l = map goal_of (take l.i l.goals) ≡ map goal_of (take l.i l.others)
