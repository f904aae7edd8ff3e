-- What a contract sees of a queue, and what its parts keep.
use Rattle.std.specs.Prelude.{◌≡◌, ℕ, ◌≤◌, List, All, IsSome, length, map, nat_eq, ◌++◌, false}
use Rattle.std.specs.List.{IsDistinct}
use Rattle.std.specs.List.Sorted.{IsPermutation}
use Rattle.tree_runs.specs.Marks.{is_relevant}
use Rattle.slab.specs.Slab.{Slab, get, slab_len}
use Rattle.tree_runs.specs.Shapes.{TreeShape}
use Rattle.tree_queue.specs.declared.entry.Entry.{Entry}
use Rattle.tree_queue.specs.Heaps.{IsHeap}
use Rattle.tree_queue.specs.Orders.{entry_at, is_ahead, IsPlaced}

-- the entries, and how many more fit with no memory taken
pub record Queued : Type 0 where
  pub entries : List Entry
  pub spare : ℕ

-- Each key is there once and has an entry, no entry has no key, and there is room for so many of both.
pub record IsSound (keys : List ℕ) (capacity : ℕ) (entries : Slab Entry) (room : ℕ) : Type 0 where
  pub apart : IsDistinct nat_eq keys
  pub held : All (λ key. IsSome (get entries key)) keys
  pub count : slab_len entries ≡ length keys
  pub fits : length keys ≤ room
  pub values : room ≤ entries.capacity
  pub places : room ≤ capacity

-- the entries in the order of their keys
abbrev pub entries_of : List ℕ → Slab Entry → List Entry
entries_of keys entries = map (entry_at entries) keys

-- The entries are of nodes of this shape, and in the order of a heap.
pub record IsQueueOf (shape : TreeShape) (entries : List Entry) : Type 0 where
  pub placed : All (IsPlaced shape) entries
  pub heap : IsHeap (is_ahead shape) entries

-- no entry is better than this one
abbrev pub IsBestOf : TreeShape → List Entry → Entry → Type 0
IsBestOf shape entries best = All (λ entry. is_ahead shape entry best ≡ false) entries

-- The new entries are the old ones but for some whose nodes aren't relevant.
pub record DropsIrrelevant (shape : TreeShape) (old new : List Entry) : Type 0 where
  pub dropped : List Entry
  pub parts : IsPermutation old (dropped ++ new)
  pub irrelevant : All (λ entry. is_relevant shape entry.node ≡ false) dropped
