use Rattle.std.proofs.Common.{arith, ◌+◌, ◌≤◌, ap, subst, sym, ◌∙◌, length, length-append, [], ◌∷◌}
use Rattle.std.proofs.lemmas.List.Sorted.{length_permutation}
use Rattle.tree_queue.specs.Queues.{IsQueueOf}
use Rattle.tree_queue.proofs.Views.{put_known, put_heap, put_sound, put_queue, put_added}
use Rattle.tree_queue.proofs.queue.Queue.put.Goals as goal

pub sift_up-requires-clause-known : goal.sift_up-requires-clause-known
sift_up-requires-clause-known c =
    let queue = subst (λ q. IsQueueOf c.args.shape.now.shape q.entries) (sym c.self.view_is) c.requires.queue in
    let in_slab = c.insert_reserved-key.ensures in
    put_known c.args.shape.now.shape c.self.inside.keys.items _ [] c.self.inside.entries c.insert_reserved-key.new.self c.insert_reserved-key.result c.args.entry _ 0 c.self.inside.room
    c.self.invariant in_slab.was_vacant in_slab.updates c.push_reserved.ensures.items c.requires.entry queue

pub sift_up-requires-clause-heap : goal.sift_up-requires-clause-heap
sift_up-requires-clause-heap c =
    let queue = subst (λ q. IsQueueOf c.args.shape.now.shape q.entries) (sym c.self.view_is) c.requires.queue in
    let in_slab = c.insert_reserved-key.ensures in
    rw (c.len-place.ensures ∙ c.self.inside.keys.ok.0)
    (put_heap c.args.shape.now.shape c.self.inside.keys.items _ [] c.self.inside.entries c.insert_reserved-key.new.self c.insert_reserved-key.result c.args.entry _ 0 c.self.inside.room
    c.self.invariant in_slab.was_vacant in_slab.updates c.push_reserved.ensures.items queue)

pub invariant_of-self : goal.invariant_of-self
invariant_of-self c =
    let in_slab = c.insert_reserved-key.ensures in
    let room : length c.self.inside.keys.items + 1 ≤ c.self.inside.room = omega (arith, c.requires.room, ap (λ q. q.spare) c.self.view_is) in
    put_sound c.args.shape.now.shape c.self.inside.keys.items _ c.sift_up.new.keys.items c.self.inside.entries c.insert_reserved-key.new.self c.insert_reserved-key.result c.args.entry _ _ c.self.inside.room
    c.self.invariant in_slab.was_vacant in_slab.updates c.push_reserved.ensures.items c.sift_up.ensures.same in_slab.len room (c.sift_up.ensures.capacity ∙ c.push_reserved.ensures.capacity) in_slab.capacity

pub returns-clause-queue : goal.returns-clause-queue
returns-clause-queue c =
    let queue = subst (λ q. IsQueueOf c.args.shape.now.shape q.entries) (sym c.self.view_is) c.requires.queue in
    let in_slab = c.insert_reserved-key.ensures in
    put_queue c.args.shape.now.shape c.self.inside.keys.items _ c.sift_up.new.keys.items c.self.inside.entries c.insert_reserved-key.new.self c.insert_reserved-key.result c.args.entry _ 0 c.self.inside.room
    c.self.invariant in_slab.was_vacant in_slab.updates c.push_reserved.ensures.items c.requires.entry queue c.sift_up.ensures.same c.sift_up.ensures.heap

pub returns-clause-added : goal.returns-clause-added
returns-clause-added c =
    let in_slab = c.insert_reserved-key.ensures in
    rw (← c.self.view_is)
    (put_added c.args.shape.now.shape c.self.inside.keys.items _ c.sift_up.new.keys.items c.self.inside.entries c.insert_reserved-key.new.self c.insert_reserved-key.result c.args.entry _ 0 c.self.inside.room
    c.self.invariant in_slab.was_vacant in_slab.updates c.push_reserved.ensures.items c.sift_up.ensures.same)

pub returns-clause-spare : goal.returns-clause-spare
returns-clause-spare c =
    let long = length_permutation _ _ c.sift_up.ensures.same ∙ (ap length c.push_reserved.ensures.items ∙ length-append c.self.inside.keys.items (c.insert_reserved-key.result ∷ [])) in
    omega (arith, long, c.requires.room, ap (λ q. q.spare) c.self.view_is)
