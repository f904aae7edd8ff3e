use Rattle.std.proofs.Common.{◌≡◌, ◌+◌, ◌++◌, IsPermutation}
use Rattle.tree_queue.specs.Queues.{IsQueueOf}
use Rattle.tree_steps.specs.Children.{alike}
use Rattle.tree_steps.proofs.children.put_alike.Given as goal

abbrev pub invariant-loop-place : goal.invariant-loop-place
invariant-loop-place l = record {
  queue : IsQueueOf l.shape.shape l.queue.entries;
  put : IsPermutation (l.initial.queue.entries ++ alike l.first.node l.first.depth l.first.priority l.place) l.queue.entries;
  spare : l.queue.spare + l.place ≡ l.initial.queue.spare;
}
