use Rattle.rule_sets.specs.Candidates.{AreCandidates}
use Rattle.rule_sets.proofs.order.candidates.Given as goal

abbrev pub invariant-loop-number : goal.invariant-loop-number
invariant-loop-number l = AreCandidates l.book l.chosen l.number l.candidates.items
