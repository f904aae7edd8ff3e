-- Tables of the places of a context, and of the arguments of a type.
use Rattle.std.specs.Prelude.{◌≡◌, ℕ, suc, ◌<◌, Bool, false, if◌then◌else◌, List, [], ◌∷◌, Option, None, length, slice_index, slice_index_or}
use Rattle.opening_laws.specs.Openings.{is_kept, fixed_to}
use Rattle.meta_openings.specs.Counts.{kept_before}
use Rattle.meta_openings.specs.declared.places.Places.{Places}

-- whether each of so many places is kept
pub record AreMarks (kept : List ℕ) (count : ℕ) (marks : List Bool) : Type 0 where
  pub as_many : length marks ≡ count
  pub marked : (place : ℕ) → place < count → slice_index_or marks place false ≡ is_kept kept place

-- how many are kept before each of them, and before the end
pub record AreCounts (kept : List ℕ) (count : ℕ) (before : List ℕ) : Type 0 where
  pub one_more : length before ≡ suc count
  pub counted : (place : ℕ) → place < suc count → slice_index before place ≡ kept_before kept place

abbrev pub AreTables : Places → ℕ → Type 0
AreTables places count = AreMarks places.kept.now count places.marks.items × AreCounts places.kept.now count places.before.items

-- for each of so many arguments the place that it is fixed to
pub record AreFixed (fixed : List (ℕ × ℕ)) (count : ℕ) (places : List (Option ℕ)) : Type 0 where
  pub each : length places ≡ count
  pub fixed_so : (i : ℕ) → i < count → slice_index_or places i None ≡ fixed_to fixed i

-- what is added where something is kept
abbrev pub one_if : {A : Type 0} → Bool → A → List A
one_if b x = if b then x ∷ [] else []
