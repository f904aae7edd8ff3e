use Rattle.build_shared.proofs.GreatestNumbers.{AboveBefore}
use Rattle.build_shared.proofs.numbers.next_above.Given as goal

abbrev pub invariant-loop-i : goal.invariant-loop-i
invariant-loop-i l = AboveBefore l.least l.items l.next l.i
