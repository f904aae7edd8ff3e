use Rattle.std.proofs.Common.{◌≡◌, ◌-◌, ◌/◌, ◌<◌, All, length, IsPermutation}
use Rattle.std.specs.Vec.{vec_capacity}
use Rattle.tree_queue.specs.Orders.{is_key_ahead, IsKnown}
use Rattle.tree_queue.specs.Heaps.{IsHeapAround}
use Rattle.tree_queue.proofs.heap.sink_first.Given as goal

abbrev pub invariant-loop-hole : goal.invariant-loop-hole
invariant-loop-hole l = record {
  half : l.half ≡ length l.keys.items / 2;
  within : l.hole < length l.keys.items;
  known : All (IsKnown l.shape.shape l.entries) l.keys.items;
  heap : IsHeapAround (is_key_ahead l.shape.shape l.entries) l.keys.items l.hole;
  same : IsPermutation l.initial.keys.items l.keys.items;
  capacity : vec_capacity l.keys ≡ vec_capacity l.initial.keys;
}

abbrev pub decreases-loop-hole : goal.decreases-loop-hole
decreases-loop-hole l = length l.keys.items - l.hole
