use Rattle.std.proofs.Common.{◌≡◌, ◌++◌}
use Rattle.std.specs.Vec.{vec_capacity}
use Rattle.tree_steps.proofs.children.append_nodes.Given as goal

abbrev pub invariant-loop-node : goal.invariant-loop-node
invariant-loop-node g l = record {
  items : l.others.items ≡ l.initial.others.items ++ l.yielded;
  capacity : vec_capacity l.others ≡ vec_capacity l.initial.others;
}
