use Rattle.std.proofs.Common.{◌≡◌, ℕ, ◌-◌, ◌/◌, ◌<◌, ◌∙◌, length, slice_index_or, sym, true, arith}
use Rattle.std.proofs.lemmas.List.{get_or_default}
use Rattle.std.proofs.lemmas.List.Sorted.{IsPermutation-swap, IsPermutation-trans, All-permutation}
use Rattle.tree_queue.specs.Orders.{is_key_ahead, IsKnown}
use Rattle.tree_queue.proofs.EntryOrder.{keys_are_ordered}
use Rattle.tree_queue.proofs.Sifts.{up_step}
use Rattle.tree_queue.proofs.heap.sift_up.Goals as goal

pub loop-hole-preserved : goal.loop-hole-preserved
loop-hole-preserved c =
    let before = c.loop-hole.invariant in
    let xs = c.loop-hole.keys.items in
    let ys = c.swap.new.self.items in
    let hole = c.loop-hole.hole in
    let above : ℕ = (hole - 1) / 2 in
    let lt = is_key_ahead c.args.shape.now.shape c.args.entries.now in
    let above_in : above < length xs = omega (arith, before.within) in
    let at_hole : (d : ℕ) → slice_index_or xs hole d ≡ c.index.result.now = λ d. get_or_default xs hole d _ before.within ∙ sym c.index.ensures in
    let at_above : (d : ℕ) → slice_index_or xs above d ≡ c.index-in-loop-hole.result.now = λ d. get_or_default xs above d _ above_in ∙ sym c.index-in-loop-hole.ensures in
    let ahead : (d : ℕ) → lt (slice_index_or xs hole d) (slice_index_or xs above d) ≡ true = λ d. rw (at_hole d, at_above d) (sym c.is_ahead.ensures ∙ c.if-not-is_ahead.false) in
    let long : length ys ≡ length xs = omega (arith, c.swap.ensures.len, c.loop-hole.keys.ok.0, c.swap.new.self.ok.0) in
    let step = up_step lt (keys_are_ordered c.args.shape.now.shape c.args.entries.now) xs ys hole c.swap.ensures.by_index long c.loop-hole-test.true before.within ahead before.heap in
    let swapped = IsPermutation-swap xs ys hole above before.within above_in c.swap.ensures.items in
    record {
      within = omega (arith, long, above_in);
      known = All-permutation (IsKnown c.args.shape.now.shape c.args.entries.now) xs ys swapped before.known;
      heap = step;
      same = IsPermutation-trans _ _ _ before.same swapped;
      capacity = c.swap.ensures.capacity ∙ before.capacity;
    }
