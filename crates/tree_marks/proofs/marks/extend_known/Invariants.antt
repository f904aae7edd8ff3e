use Rattle.std.proofs.Common.{◌≡◌, ◌++◌, ◌+◌, ◌≤◌, length, replicate, vec_capacity}
use Rattle.tree_marks.proofs.marks.extend_known.Given as goal

abbrev pub invariant-loop-place : goal.invariant-loop-place
invariant-loop-place l = record {
  items : l.known.items ≡ l.initial.known.items ++ replicate l.place (0, 0);
  size : length l.known.items ≡ length l.initial.known.items + l.place;
  capacity : vec_capacity l.initial.known ≤ vec_capacity l.known;
}
