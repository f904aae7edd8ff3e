use Rattle.std.proofs.Common.{◌≡◌, vec_capacity}
use Rattle.tree_marks.proofs.Fallen.{RangeFades}
use Rattle.tree_marks.proofs.relevance.fade_range.Given as goal

abbrev pub invariant-loop-place : goal.invariant-loop-place
invariant-loop-place l = record {
  done : RangeFades (record { flags = l.initial.flags.items; pending = l.initial.pending.items }) (record { flags = l.flags.items; pending = l.pending.items }) l.first l.place;
  flags_capacity : vec_capacity l.flags ≡ vec_capacity l.initial.flags;
  pending_capacity : vec_capacity l.pending ≡ vec_capacity l.initial.pending;
}
