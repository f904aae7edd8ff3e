use Rattle.std.proofs.Common.{◌≡◌, ◌+◌, ◌++◌, take, sum, IsPermutation}
use Rattle.tree_queue.specs.Queues.{IsQueueOf}
use Rattle.tree_steps.specs.Children.{children_of, widths}
use Rattle.tree_steps.proofs.children.put_children.Given as goal

abbrev pub invariant-loop-branch : goal.invariant-loop-branch
invariant-loop-branch g l = record {
  queue : IsQueueOf l.shape.shape l.queue.entries;
  next : l.next ≡ l.first + sum (widths (take l.branch-index l.branch-items));
  put : IsPermutation (l.initial.queue.entries ++ children_of l.first l.parent.depth l.parent.priority (take l.branch-index l.branch-items)) l.queue.entries;
  spare : l.queue.spare + sum (widths (take l.branch-index l.branch-items)) ≡ l.initial.queue.spare;
}
