use Rattle.std.proofs.lemmas.List.Sorted.{IsPermutation-trans}
use Rattle.tree_queue.proofs.heap.settle_first.Goals as goal

pub returns-clause-same : goal.returns-clause-same
returns-clause-same c = IsPermutation-trans _ _ _ c.sink_first-hole.ensures.same c.sift_up.ensures.same
