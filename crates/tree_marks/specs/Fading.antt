-- How nodes become irrelevant: each is marked so once, and is pending from then on until its children are marked, too.
use Rattle.std.specs.Prelude.{◌≡◌, ◌⊎◌, ℕ, suc, ◌+◌, ◌≤◌, Bool, true, false, ◌==◌, ◌||◌, List, [], ◌∷◌, length, Some}
use Rattle.std.specs.List.{list_any}
use Rattle.tree_shape.specs.Room.{HasRoom}
use Rattle.tree_runs.specs.Shapes.{TreeShape, alternatives_at, IsChild}
use Rattle.tree_runs.specs.Marks.{all_children, entry_at}
use Rattle.tree_marks.specs.TreeMarks.{marked, unmarked, entry_decided, keeps}

-- for each node whether it is relevant still, and the irrelevant nodes whose children are to be marked
pub record Fading : Type 0 where
  pub flags : List Bool
  pub pending : List ℕ

-- these, and for how many more nodes there is room
pub record FadingRoom : Type 0 where
  pub fading : Fading
  pub spare : ℕ

-- how many flags are up
abbrev pub ups : List Bool → ℕ
ups [] = 0
ups (true ∷ flags) = suc (ups flags)
ups (false ∷ flags) = ups flags

-- There is room for so many more nodes, and for each node to become pending once.
pub record HoldsFading (flags : List Bool) (capacity : ℕ) (pending : List ℕ) (pending_capacity spare : ℕ) : Type 0 where
  pub flags_room : HasRoom (length flags) capacity spare
  pub pending_room : length flags + spare ≤ pending_capacity
  pub once : ups flags + length pending ≤ length flags

abbrev pub is_pending : List ℕ → ℕ → Bool
is_pending pending node = list_any (λ other. other == node) pending

-- Just nodes of a kind were marked irrelevant, and these are pending.
pub record Fades (old new : Fading) (Kind : ℕ → Type 0) : Type 0 where
  pub size : length new.flags ≡ length old.flags
  pub down : (node : ℕ) → unmarked old.flags node ≡ false → unmarked new.flags node ≡ false
  pub fallen : (node : ℕ) → unmarked new.flags node ≡ false → (unmarked old.flags node ≡ false) ⊎ (Kind node × (is_pending new.pending node ≡ true))
  pub stays : (node : ℕ) → is_pending old.pending node ≡ true → is_pending new.pending node ≡ true
  pub waiting : (node : ℕ) → is_pending new.pending node ≡ true → (is_pending old.pending node ≡ true) ⊎ (unmarked new.flags node ≡ false)
  pub total : ups new.flags + length new.pending ≡ ups old.flags + length old.pending

-- the node is a child of that one
pub record HangsBelow (shape : TreeShape) (node child : ℕ) : Type 0 where
  pub alternative : ℕ
  pub place : ℕ
  pub is : IsChild shape node alternative place child

-- the node is a child of a decided alternative
pub record IsDecidedChild (shape : TreeShape) (proved stuck : List Bool) (child : ℕ) : Type 0 where
  pub parent : ℕ
  pub alternative : ℕ
  pub place : ℕ
  pub there : IsChild shape parent alternative place child
  pub decided : entry_decided proved stuck (entry_at (alternatives_at shape parent) alternative) ≡ true

-- Where the node is relevant, and stuck or one of children that are all proved, these are marked irrelevant.
pub record FadesBeside (shape : TreeShape) (proved stuck : List Bool) (node : ℕ) (old new : Fading) : Type 0 where
  pub fades : Fades old new (IsDecidedChild shape proved stuck)
  pub whole : (parent alternative place : ℕ) (entry : ℕ × ℕ) (other_place other : ℕ) → IsChild shape parent alternative place node → entry_at (alternatives_at shape parent) alternative ≡ Some entry →
      IsChild shape parent alternative other_place other → unmarked old.flags node ≡ true → unmarked new.flags other ≡ true → (marked stuck node || all_children (marked proved) entry) ≡ false

-- The children that are marked irrelevant are so, and those that are so are marked, but for the children of pending nodes.
pub record IsSpread (shape : TreeShape) (proved stuck : List Bool) (fading : Fading) : Type 0 where
  pub sound : (node alternative place child : ℕ) → IsChild shape node alternative place child → unmarked fading.flags child ≡ false → keeps shape proved stuck fading.flags node alternative ≡ false
  pub whole : (node alternative place child : ℕ) → IsChild shape node alternative place child → unmarked fading.flags child ≡ true →
      (keeps shape proved stuck fading.flags node alternative ≡ true) ⊎ (is_pending fading.pending node ≡ true)
  pub waiting : (node : ℕ) → is_pending fading.pending node ≡ true → unmarked fading.flags node ≡ false
  pub root : unmarked fading.flags 0 ≡ true

-- Just one node was marked proved or stuck.
pub record DecidesOne (old_proved old_stuck proved stuck : List Bool) (node : ℕ) : Type 0 where
  pub proved_elsewhere : (other : ℕ) → (other ≡ node → ⊥) → marked proved other ≡ marked old_proved other
  pub stuck_elsewhere : (other : ℕ) → (other ≡ node → ⊥) → marked stuck other ≡ marked old_stuck other
  pub proved_grows : marked old_proved node ≡ true → marked proved node ≡ true
  pub stuck_grows : marked old_stuck node ≡ true → marked stuck node ≡ true
  pub decided : (marked proved node || marked stuck node) ≡ true
