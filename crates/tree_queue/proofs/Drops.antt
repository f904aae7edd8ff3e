-- Entries of nodes that aren't relevant are dropped, one after another.
use Rattle.std.proofs.Common.{◌≡◌, ◌<◌, false, List, [], ◌∷◌, ◌++◌, Some, None, IsPermutation, refl, subst, arith, slice_get, slice_index_or}
use Rattle.std.proofs.lemmas.Option.{slice_get_within, get_or_from_slice_get}
use Rattle.std.proofs.lemmas.List.Elements.{All-cons, All-append, All-nil}
use Rattle.std.proofs.lemmas.List.Sorted.{IsPermutation-pop_more}
use Rattle.tree_runs.specs.Shapes.{TreeShape, nodes_count}
use Rattle.tree_runs.specs.Marks.{is_relevant}
use Rattle.tree_queue.specs.declared.entry.Entry.{Entry}
use Rattle.tree_queue.specs.Orders.{is_ahead}
use Rattle.tree_queue.specs.Queues.{IsQueueOf, IsBestOf, DropsIrrelevant}
use Rattle.tree_queue.proofs.EntryOrder.{entries_are_ordered}
use Rattle.tree_queue.proofs.Sifts.{first_of_heap}

-- nothing comes before the first
pub first_is_best : (shape : TreeShape) (entries : List Entry) (first : Entry) → IsQueueOf shape entries → slice_get entries 0 ≡ Some first → IsBestOf shape entries first
first_is_best shape entries first queue h k d l =
    subst (λ e. is_ahead shape (slice_index_or entries k d) e ≡ false) (get_or_from_slice_get entries 0 first d h)
    (first_of_heap (is_ahead shape) (entries_are_ordered shape) entries queue.heap k k d (omega arith) l)

-- one more is dropped
pub DropsIrrelevant-more : (shape : TreeShape) (old now new : List Entry) (first : Entry) → DropsIrrelevant shape old now → is_relevant shape first.node ≡ false → IsPermutation now (first ∷ new) → DropsIrrelevant shape old new
DropsIrrelevant-more shape old now new first before h taken = record {
  dropped = before.dropped ++ first ∷ [];
  parts = IsPermutation-pop_more old before.dropped now new first before.parts taken;
  irrelevant = let P : Entry → Type 0 = λ entry. is_relevant shape entry.node ≡ false in All-append P before.dropped (first ∷ []) before.irrelevant (All-cons P first [] h (All-nil P));
}

-- the first entry's node stands
pub first_stands : (shape : TreeShape) (entries : List Entry) (first : Entry) → IsQueueOf shape entries → slice_get entries 0 ≡ Some first → first.node < nodes_count shape
first_stands shape entries first queue h =
    let here = queue.placed 0 first (slice_get_within entries 0 first h) in
    subst (λ e. e.node < nodes_count shape) (get_or_from_slice_get entries 0 first first h) here.stands

-- there is no first entry
pub no_first : (entries : List Entry) → slice_get entries 0 ≡ None → entries ≡ []
no_first [] h = refl
no_first (x ∷ xs) h = cc
