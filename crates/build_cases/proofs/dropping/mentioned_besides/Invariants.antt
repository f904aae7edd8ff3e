use Rattle.std.proofs.Common.{◌≡◌, drop, map}
use Rattle.std.specs.List.{list_any}
use Rattle.build_shared.specs.Seen.{seen_hypothesis}
use Rattle.build_cases.specs.Splits.{mentions_besides}
use Rattle.build_cases.proofs.dropping.mentioned_besides.Given as goal

abbrev pub invariant-loop-i : goal.invariant-loop-i
invariant-loop-i l = list_any (mentions_besides l.number l.place) (map seen_hypothesis l.hyps) ≡ list_any (mentions_besides l.number l.place) (map seen_hypothesis (drop l.i l.hyps))
