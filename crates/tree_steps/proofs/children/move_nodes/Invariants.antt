use Rattle.std.proofs.Common.{◌≡◌, ◌+◌, ◌≤◌, ◌++◌, length, sum}
use Rattle.std.specs.Vec.{vec_capacity}
use Rattle.std.specs.Vec.Iter.{into_iter_items, into_iter_len}
use Rattle.tree_steps.specs.Children.{nodes_made, widths}
use Rattle.tree_steps.proofs.children.move_nodes.Given as goal

abbrev pub invariant-loop-branch : goal.invariant-loop-branch
invariant-loop-branch g l = record {
  room : length l.others.items + sum (widths (into_iter_items l.branch-iterator)) ≤ vec_capacity l.others;
  items : l.others.items ++ nodes_made (into_iter_items l.branch-iterator) ≡ l.initial.others.items ++ nodes_made l.fn.branches.alternatives.items;
  count : into_iter_len l.branch-iterator ≡ length (into_iter_items l.branch-iterator);
}
