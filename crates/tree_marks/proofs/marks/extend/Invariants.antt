use Rattle.std.proofs.Common.{◌≡◌, ◌++◌, ◌+◌, ◌≤◌, length, replicate, vec_capacity}
use Rattle.tree_marks.proofs.marks.extend.Given as goal

abbrev pub invariant-loop-place : goal.invariant-loop-place
invariant-loop-place l = record {
  items : l.flags.items ≡ l.initial.flags.items ++ replicate l.place l.flag;
  size : length l.flags.items ≡ length l.initial.flags.items + l.place;
  capacity : vec_capacity l.initial.flags ≤ vec_capacity l.flags;
}
