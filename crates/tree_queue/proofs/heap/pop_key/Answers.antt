use Rattle.std.proofs.Common.{arith}
use Rattle.std.proofs.lemmas.List.Sorted.{IsPermutation-swap_remove, IsPermutation-cons, IsPermutation-trans}
use Rattle.tree_queue.proofs.heap.pop_key.Goals as goal

pub returns-clause-popped : goal.returns-clause-popped
returns-clause-popped c =
    let xs = c.args.keys.now.items in
    let key = c.swap_remove-key.result in
    let removed = IsPermutation-swap_remove xs 0 key (omega (arith, c.requires.some, c.args.keys.now.ok.0)) c.swap_remove-key.ensures.value in
    IsPermutation-trans _ _ _ (rw c.swap_remove-key.ensures.items removed) (IsPermutation-cons key _ _ c.settle_first.ensures.same)
