use Rattle.std.proofs.Common.{◌≡◌, ◌++◌, map, take}
use Rattle.lf_terms.specs.Targets.{goal_of}
use Rattle.step_tests.proofs.putting.joined.Given as goal

abbrev pub invariant-loop-i : goal.invariant-loop-i
invariant-loop-i l = l.all ≡ l.fn.goals.proofs ++ map goal_of (take l.i l.items)
