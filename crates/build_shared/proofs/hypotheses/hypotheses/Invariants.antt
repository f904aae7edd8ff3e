use Rattle.build_shared.proofs.ContextEntries.{FoundBefore}
use Rattle.build_shared.proofs.hypotheses.hypotheses.Given as goal

abbrev pub invariant-loop-i : goal.invariant-loop-i
invariant-loop-i l = FoundBefore l.types l.found.items l.i
