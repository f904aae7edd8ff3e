use Rattle.std.proofs.Common.{◌≡◌, ℕ, ◌/◌, ◌<◌, ◌∙◌, length, slice_index_or, sym, subst, ap, false, arith}
use Rattle.std.proofs.lemmas.List.Sorted.{IsPermutation-swap, IsPermutation-trans, All-permutation}
use Rattle.tree_queue.specs.Heaps.{parent}
use Rattle.tree_queue.specs.Orders.{is_key_ahead, IsKnown}
use Rattle.tree_queue.proofs.EntryOrder.{keys_are_ordered}
use Rattle.tree_queue.proofs.Sifts.{around_step}
use Rattle.tree_queue.proofs.heap.sink_first.Goals as goal

pub loop-hole-preserved : goal.loop-hole-preserved
loop-hole-preserved c =
    let before = c.loop-hole.invariant in
    let xs = c.loop-hole.keys.items in
    let ys = c.swap.new.self.items in
    let hole = c.loop-hole.hole in
    let below = c.better_below-below.result in
    let lt = is_key_ahead c.args.shape.now.shape c.args.entries.now in
    let e : c.as_slice.result.now ≡ xs = c.as_slice.ensures.value in
    let below_in : below < length xs = omega (arith, c.better_below-below.ensures.within, ap length e) in
    let best : (s : ℕ) (d : ℕ) → parent s ≡ hole → 0 < s → s < length xs → lt (slice_index_or xs s d) (slice_index_or xs below d) ≡ false = λ s d p a l. let ok = c.better_below-below.ensures.best s d (omega (arith, p, a)) (omega (arith, p, a)) (omega (arith, l, ap length e)) in subst (λ ks. lt (slice_index_or ks s d) (slice_index_or ks below d) ≡ false) e ok in
    let long : length ys ≡ length xs = omega (arith, c.swap.ensures.len, c.loop-hole.keys.ok.0, c.swap.new.self.ok.0) in
    let is_parent : parent below ≡ hole = omega (arith, c.better_below-below.ensures.child.0, c.better_below-below.ensures.child.1) in
    let step = around_step lt (keys_are_ordered c.args.shape.now.shape c.args.entries.now) xs ys hole below c.swap.ensures.by_index long is_parent (omega (arith, c.better_below-below.ensures.child.0)) below_in best before.heap in
    let swapped = IsPermutation-swap xs ys hole below before.within below_in c.swap.ensures.items in
    record {
      half = before.half ∙ ap (λ n. n / 2) (sym long);
      within = omega (arith, long, below_in);
      known = All-permutation (IsKnown c.args.shape.now.shape c.args.entries.now) xs ys swapped before.known;
      heap = step;
      same = IsPermutation-trans _ _ _ before.same swapped;
      capacity = c.swap.ensures.capacity ∙ before.capacity;
    }
