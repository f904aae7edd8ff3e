use Rattle.std.proofs.Common.{◌≡◌, ◌++◌, take, map}
use Rattle.lf_terms.specs.Targets.{goal_of}
use Rattle.build_shared.proofs.remaining.add_goals.Given as goal

abbrev pub invariant-loop-i : goal.invariant-loop-i
invariant-loop-i l = l.list ≡ l.fn.list ++ map goal_of (take l.i l.items)
