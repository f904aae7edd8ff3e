-- Entries and keys are in a strict weak order.
use Rattle.std.specs.Cmp.{IsStrictWeakOrder, IsTotalOrder}
use Rattle.std.proofs.lemmas.Cmp.{nat_cmp_total, on_total, then_total, back_total, lists_total}
use Rattle.std.proofs.lemmas.List.Sorted.{ranks_by}
use Rattle.slab.specs.Slab.{Slab}
use Rattle.tree_queue.specs.declared.entry.Entry.{Entry}
use Rattle.tree_runs.specs.Shapes.{TreeShape}
use Rattle.tree_runs.specs.Addresses.{address_of}
use Rattle.tree_runs.specs.Best.{step_cmp, address_cmp}
use Rattle.tree_queue.specs.Orders.{entry_cmp, is_ahead, entry_at, is_key_ahead}

pub step_cmp_total : IsTotalOrder step_cmp
step_cmp_total = then_total (on_total (λ s. s.0) nat_cmp_total) (on_total (λ s. s.1) nat_cmp_total)

pub address_cmp_total : IsTotalOrder address_cmp
address_cmp_total = lists_total step_cmp_total

pub entry_cmp_total : (shape : TreeShape) → IsTotalOrder (entry_cmp shape)
entry_cmp_total shape =
    then_total
    (on_total (λ e. e.priority) (back_total nat_cmp_total))
    (then_total (on_total (λ e. e.depth) nat_cmp_total) (on_total (λ e. address_of shape e.node) address_cmp_total))

pub entries_are_ordered : (shape : TreeShape) → IsStrictWeakOrder (is_ahead shape)
entries_are_ordered shape = ranks_by (entry_cmp_total shape) (λ e. e)

pub keys_are_ordered : (shape : TreeShape) (entries : Slab Entry) → IsStrictWeakOrder (is_key_ahead shape entries)
keys_are_ordered shape entries = ranks_by (entry_cmp_total shape) (entry_at entries)
