use Rattle.std.proofs.Common.{◌≡◌, map, replicate}
use Rattle.build_shared.specs.Seen.{seen_hypothesis}
use Rattle.build_forward.proofs.rule.repeated.Given as goal

abbrev pub invariant-loop-i : goal.invariant-loop-i
invariant-loop-i l = map seen_hypothesis l.tuple.items ≡ replicate l.i (seen_hypothesis l.hyp)
