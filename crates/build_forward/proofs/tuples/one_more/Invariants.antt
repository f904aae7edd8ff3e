use Rattle.std.proofs.Common.{◌≡◌, map, take}
use Rattle.build_shared.specs.Seen.{seen_hypothesis}
use Rattle.build_forward.proofs.tuples.one_more.Given as goal

abbrev pub invariant-loop-i : goal.invariant-loop-i
invariant-loop-i l = map seen_hypothesis l.longer.items ≡ map seen_hypothesis (take l.i l.chosen)
