use Rattle.rule_index.specs.Trees.{PassesLevel}
use Rattle.rule_index.proofs.tree.pass.Given as goal

abbrev pub invariant-loop-number : goal.invariant-loop-number
invariant-loop-number l = PassesLevel l.nodes l.numbers l.number-index l.demand l.initial.places.items l.places.items l.next.items
