use Rattle.std.proofs.Common.{◌≤◌, length}
use Rattle.tree_queue.specs.Queues.{IsQueueOf, DropsIrrelevant}
use Rattle.tree_queue.proofs.queue.Queue.best.Given as goal

abbrev pub invariant-loop-entry : goal.invariant-loop-entry
invariant-loop-entry l = record {
  queue : IsQueueOf l.shape.shape l.self.entries;
  dropped : DropsIrrelevant l.shape.shape l.initial.self.entries l.self.entries;
  spare : l.initial.self.spare ≤ l.self.spare;
}

abbrev pub decreases-loop-entry : goal.decreases-loop-entry
decreases-loop-entry l = length l.self.entries
