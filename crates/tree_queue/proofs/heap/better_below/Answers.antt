use Rattle.std.proofs.Common.{◌≡◌, ℕ, ◌+◌, ◌<◌, ◌∙◌, length, slice_index_or, sym, false, arith}
use Rattle.std.proofs.lemmas.List.{get_or_default}
use Rattle.tree_queue.specs.Orders.{is_key_ahead}
use Rattle.tree_queue.proofs.EntryOrder.{keys_are_ordered}
use Rattle.tree_queue.proofs.Sifts.{right_first, left_first}
use Rattle.tree_queue.proofs.heap.better_below.Goals as goal
use Rattle.tree_queue.proofs.heap.better_below.Goals.{else-right-keys-via-then-right-keys+else-is_ahead, else-right-keys-via-else-right-keys}

pub returns-then-is_ahead-clause-best : goal.returns-then-is_ahead-clause-best
returns-then-is_ahead-clause-best c =
    let xs = c.args.keys.now in
    let left = c.args.left in
    let lt = is_key_ahead c.args.shape.now.shape c.args.entries.now in
    let right_in : left + 1 < length xs = c.if-right-keys.true in
    λ s d a b l. right_first lt (keys_are_ordered c.args.shape.now.shape c.args.entries.now) xs left
    (λ e. rw (get_or_default xs (left + 1) e 0 right_in, get_or_default xs left e 0 c.requires.within) (sym c.is_ahead.ensures ∙ c.if-is_ahead.true)) s d a b

pub returns-else-right-keys-clause-best : goal.returns-else-right-keys-clause-best
returns-else-right-keys-clause-best c =
    let xs = c.args.keys.now in
    let left = c.args.left in
    let lt = is_key_ahead c.args.shape.now.shape c.args.entries.now in
    let right_after : (e : ℕ) → left + 1 < length xs → lt (slice_index_or xs (left + 1) e) (slice_index_or xs left e) ≡ false = elim c.else-right-keys.branch [
      | else-right-keys-via-then-right-keys+else-is_ahead w ↦ λ e l. rw (get_or_default xs (left + 1) e 0 l, get_or_default xs left e 0 c.requires.within) (sym w.is_ahead.ensures ∙ w.if-is_ahead.false)
      | else-right-keys-via-else-right-keys w ↦ λ e l. absurd (omega (arith, l, w.if-right-keys.false))
    ] in
    left_first lt (keys_are_ordered c.args.shape.now.shape c.args.entries.now) xs left right_after
