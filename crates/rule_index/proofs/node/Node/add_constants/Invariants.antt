use Rattle.std.proofs.Common.{◌≡◌, ◌++◌}
use Rattle.indexmap.specs.IndexMap.{values}
use Rattle.rule_index.proofs.node.Node.add_constants.Given as goal

abbrev pub invariant-loop-child : goal.invariant-loop-child
invariant-loop-child l = l.next.items ++ l.child-iterator ≡ l.initial.next.items ++ values l.self.constants
