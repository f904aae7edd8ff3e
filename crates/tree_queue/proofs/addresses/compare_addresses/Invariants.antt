use Rattle.std.proofs.Common.{◌≡◌, ◌<◌, length}
use Rattle.tree_runs.specs.Shapes.{nodes_count}
use Rattle.tree_runs.specs.Addresses.{address_of}
use Rattle.tree_runs.specs.Best.{address_cmp}
use Rattle.tree_queue.proofs.addresses.compare_addresses.Given as goal

abbrev pub invariant-loop-a : goal.invariant-loop-a
invariant-loop-a l = record {
  first : l.a < nodes_count l.shape.shape;
  second : l.b < nodes_count l.shape.shape;
  depth : length (address_of l.shape.shape l.a) ≡ length (address_of l.shape.shape l.b);
  same : address_cmp (address_of l.shape.shape l.first) (address_of l.shape.shape l.second) ≡ address_cmp (address_of l.shape.shape l.a) (address_of l.shape.shape l.b);
}

abbrev pub decreases-loop-a : goal.decreases-loop-a
decreases-loop-a l = l.a
