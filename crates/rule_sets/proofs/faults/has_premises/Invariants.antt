use Rattle.rule_sets.proofs.Premises.{PremisesSoFar}
use Rattle.rule_sets.proofs.faults.has_premises.Given as goal

abbrev pub invariant-loop-i : goal.invariant-loop-i
invariant-loop-i l = PremisesSoFar l.binders l.marks.items l.i l.count
