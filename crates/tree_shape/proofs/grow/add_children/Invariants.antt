use Rattle.std.proofs.Common.{◌≡◌, ◌++◌, ◌+◌, ◌≤◌, None, length, replicate, vec_capacity}
use Rattle.tree_runs.specs.Shapes.{children_above}
use Rattle.tree_shape.proofs.grow.add_children.Given as goal

abbrev pub invariant-loop-place : goal.invariant-loop-place
invariant-loop-place l = record {
  above_is : l.above.items ≡ l.initial.above.items ++ children_above l.node l.alternative 0 l.place;
  spans_are : l.spans.items ≡ l.initial.spans.items ++ replicate l.place None;
  above_len : length l.above.items ≡ length l.initial.above.items + l.place;
  spans_len : length l.spans.items ≡ length l.initial.spans.items + l.place;
  above_capacity : vec_capacity l.initial.above ≤ vec_capacity l.above;
  spans_capacity : vec_capacity l.initial.spans ≤ vec_capacity l.spans;
}
