use Rattle.std.proofs.Common.{arith, ap, subst, sym}
use Rattle.std.proofs.lemmas.List.Sorted.{length_permutation}
use Rattle.tree_queue.specs.Queues.{IsQueueOf}
use Rattle.tree_queue.proofs.Views.{known_keys, keys_heap, take_sound, take_queue, take_taken, taken_there, on_some}
use Rattle.tree_queue.proofs.queue.Queue.take.Goals as goal

pub pop_key-key-requires-clause-known : goal.pop_key-key-requires-clause-known
pop_key-key-requires-clause-known c =
    let queue = subst (λ q. IsQueueOf c.args.shape.now.shape q.entries) (sym c.self.view_is) c.requires.queue in
    known_keys c.args.shape.now.shape c.self.inside.entries c.self.inside.keys.items c.self.invariant.held queue.placed

pub pop_key-key-requires-clause-heap : goal.pop_key-key-requires-clause-heap
pop_key-key-requires-clause-heap c =
    let queue = subst (λ q. IsQueueOf c.args.shape.now.shape q.entries) (sym c.self.view_is) c.requires.queue in
    keys_heap c.args.shape.now.shape c.self.inside.entries c.self.inside.keys.items queue.heap

pub invariant_of-self : goal.invariant_of-self
invariant_of-self c =
    let keys = c.self.inside.keys.items in
    let last = c.pop_key-key.new.keys.items in
    let there = taken_there c.args.shape.now.shape keys last c.self.inside.entries c.try_remove-gone.new.self c.pop_key-key.result _ 0 c.self.inside.room c.self.invariant c.pop_key-key.ensures.popped c.try_remove-gone.ensures.updates c.try_remove-gone.result c.try_remove-gone.ensures.value in
    take_sound c.args.shape.now.shape keys last c.self.inside.entries c.try_remove-gone.new.self c.pop_key-key.result _ _ c.self.inside.room c.self.invariant c.pop_key-key.ensures.popped c.try_remove-gone.ensures.updates
    (on_some c.try_remove-gone.result _ there c.try_remove-gone.ensures.len) c.pop_key-key.ensures.capacity c.try_remove-gone.ensures.capacity

pub returns-clause-queue : goal.returns-clause-queue
returns-clause-queue c =
    let queue = subst (λ q. IsQueueOf c.args.shape.now.shape q.entries) (sym c.self.view_is) c.requires.queue in
    take_queue c.args.shape.now.shape c.self.inside.keys.items c.pop_key-key.new.keys.items c.self.inside.entries c.try_remove-gone.new.self c.pop_key-key.result _ 0 c.self.inside.room c.self.invariant c.pop_key-key.ensures.popped c.try_remove-gone.ensures.updates
    queue c.pop_key-key.ensures.heap

pub returns-clause-taken : goal.returns-clause-taken
returns-clause-taken c =
    rw (← c.self.view_is)
    (take_taken c.args.shape.now.shape c.self.inside.keys.items c.pop_key-key.new.keys.items c.self.inside.entries c.try_remove-gone.new.self c.pop_key-key.result _ 0 c.self.inside.room c.self.invariant c.pop_key-key.ensures.popped c.try_remove-gone.ensures.updates
    c.pop_key-key.ensures.first)

pub returns-clause-spare : goal.returns-clause-spare
returns-clause-spare c =
    let fits = c.self.invariant.fits in
    omega (arith, fits, length_permutation _ _ c.pop_key-key.ensures.popped, ap (λ q. q.spare) c.self.view_is)
