-- Binary heaps: lists in which no item comes before the one above it.
use Rattle.std.specs.Prelude.{◌≡◌, ℕ, ◌-◌, ◌/◌, ◌<◌, Bool, false, List, length, slice_index_or}

-- the place above a place
abbrev pub parent : ℕ → ℕ
parent j = (j - 1) / 2

module _ {A : Type 0} (lt : A → A → Bool) where
  -- no item comes before the one above it
  abbrev pub IsHeap : List A → Type 0
  IsHeap xs = (j : ℕ) (d : A) → 0 < j → j < length xs → lt (slice_index_or xs j d) (slice_index_or xs (parent j) d) ≡ false

  -- so it is but for the item at the hole, which may come before the one above it
  pub record IsHeapButUp (xs : List A) (hole : ℕ) : Type 0 where
    pub edges : (j : ℕ) (d : A) → 0 < j → j < length xs → (j ≡ hole → ⊥) → lt (slice_index_or xs j d) (slice_index_or xs (parent j) d) ≡ false
    pub gap : (j : ℕ) (d : A) → 0 < hole → 0 < j → j < length xs → parent j ≡ hole → lt (slice_index_or xs j d) (slice_index_or xs (parent hole) d) ≡ false

  -- so it is but for the item at the hole, which may stand too high or too low
  pub record IsHeapAround (xs : List A) (hole : ℕ) : Type 0 where
    pub edges : (j : ℕ) (d : A) → 0 < j → j < length xs → (j ≡ hole → ⊥) → (parent j ≡ hole → ⊥) → lt (slice_index_or xs j d) (slice_index_or xs (parent j) d) ≡ false
    pub gap : (j : ℕ) (d : A) → 0 < hole → 0 < j → j < length xs → parent j ≡ hole → lt (slice_index_or xs j d) (slice_index_or xs (parent hole) d) ≡ false
