use Rattle.std.proofs.Common.{◌<◌, length}
use Rattle.rule_index.specs.Trees.{NodesGrow, BranchesAreNodes}
use Rattle.rule_index.proofs.Nodes.{IsOnTheWay}
use Rattle.rule_index.proofs.node.insert.Given as goal

abbrev pub invariant-loop-part : goal.invariant-loop-part
invariant-loop-part l = record {
  grows : NodesGrow l.initial.nodes.items l.nodes.items;
  within : l.number < length l.nodes.items;
  closed : BranchesAreNodes l.nodes.items;
  on_the_way : IsOnTheWay l.nodes.items l.root l.parts l.place l.part-index l.number;
}
