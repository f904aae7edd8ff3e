-- Variables of patterns as they are kept, and as they are seen from under binders.
use Rattle.std.specs.Prelude.{◌≡◌, ℕ, zero, suc, ◌-◌, ◌<◌, List, [], ◌∷◌, length, true, false, Option, Some, None, slice_index_or, if◌then◌else◌, ⊤}
use Rattle.head_laws.specs.Renumbering.{place_of_number}
use Rattle.unification.specs.Patterns.{has_number, under_binder, are_different}
use Rattle.meta_patterns.specs.declared.pattern.Variables.{Variables}
use Rattle.meta_patterns.specs.declared.pattern.Variables.TheVariants.{Own, Chosen}

-- the variables of a context of so many entries, the oldest first
abbrev pub own_numbers : ℕ → List ℕ
own_numbers zero = []
own_numbers (suc n) = n ∷ own_numbers n

abbrev pub numbers_kept : Variables → List ℕ
numbers_kept (Own count) = own_numbers count
numbers_kept (Chosen numbers table) = numbers

-- The number of the entry at whose place a variable stands, if it is one of these, in a context with as many entries.
abbrev pub placed_number : List ℕ → ℕ → Option ℕ
placed_number ns n = if has_number ns n then Some (length ns - suc (place_of_number ns n)) else None

-- A table has this number of each variable.
abbrev pub IsPlaceTable : List (Option ℕ) → List ℕ → Type 0
IsPlaceTable table ns = (n : ℕ) → slice_index_or table n None ≡ placed_number ns n

abbrev pub IsTabled : Variables → Type 0
IsTabled (Own count) = ⊤
IsTabled (Chosen numbers table) = IsPlaceTable table.items numbers

-- There is a table of these variables where they differ.
abbrev pub TabledIfDifferent : List ℕ → Option (List (Option ℕ)) → Type 0
TabledIfDifferent ns None = are_different ns ≡ false
TabledIfDifferent ns (Some table) = (are_different ns ≡ true) × IsPlaceTable table ns

-- Each variable below this number is one of these.
abbrev pub HasBelow : List ℕ → ℕ → Type 0
HasBelow ns limit = (n : ℕ) → n < limit → has_number ns n ≡ true

-- the same variables, seen from under so many more binders, and those of the binders
abbrev pub under_binders : ℕ → List ℕ → List ℕ
under_binders zero ns = ns
under_binders (suc n) ns = under_binder (under_binders n ns)
