-- The order of nodes: by priority, the greater first, then by depth, then by address.
use Rattle.std.specs.Prelude.{◌≡◌, ℕ, ◌<◌, Bool, unwrap_or, length, IsSome}
use Rattle.std.specs.declared.cmp.Ordering.{Ordering}
use Rattle.std.specs.Ordering.{nat_cmp, then_cmp, on, flip_args, is_lt}
use Rattle.slab.specs.Slab.{Slab, get}
use Rattle.tree_runs.specs.Shapes.{TreeShape, nodes_count}
use Rattle.tree_runs.specs.Addresses.{address_of}
use Rattle.tree_runs.specs.Best.{address_cmp}
use Rattle.tree_queue.specs.declared.entry.Entry.{Entry}

-- two entries, the better one first
abbrev pub entry_cmp : TreeShape → Entry → Entry → Ordering
entry_cmp shape = then_cmp (on (λ e. e.priority) (flip_args nat_cmp)) (then_cmp (on (λ e. e.depth) nat_cmp) (on (λ e. address_of shape e.node) address_cmp))

-- the first entry is better than the second
abbrev pub is_ahead : TreeShape → Entry → Entry → Bool
is_ahead shape a b = is_lt (entry_cmp shape a b)

-- the node of an entry stands at the depth that it tells
pub record IsPlaced (shape : TreeShape) (entry : Entry) : Type 0 where
  pub stands : entry.node < nodes_count shape
  pub depth : entry.depth ≡ length (address_of shape entry.node)

-- an entry that stands where there is none
abbrev pub no_entry : Entry
no_entry = record { node = 0; depth = 0; priority = 0 }

-- the entry at a key
abbrev pub entry_at : Slab Entry → ℕ → Entry
entry_at entries key = unwrap_or (get entries key) no_entry

-- the entry at the first key is better than the one at the second
abbrev pub is_key_ahead : TreeShape → Slab Entry → ℕ → ℕ → Bool
is_key_ahead shape entries a b = is_ahead shape (entry_at entries a) (entry_at entries b)

-- the key has an entry, and that is placed in the shape
pub record IsKnown (shape : TreeShape) (entries : Slab Entry) (key : ℕ) : Type 0 where
  pub held : IsSome (get entries key)
  pub placed : IsPlaced shape (entry_at entries key)
