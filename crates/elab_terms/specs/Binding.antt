-- Binders as the code has them, the oldest first.
use Rattle.std.specs.Prelude.{◌≡◌, ℕ, ◌<◌, ◌^◌, List, [], ◌∷◌, ◌++◌, Option, Some, None, length, map, get_or, slice_get, if◌then◌else◌}
use Rattle.std.specs.Str.{bytes_eq}
use Rattle.basics.specs.Places.{place_of}
use Rattle.elab_terms.specs.Names.{Bound}
use Rattle.elab_terms.specs.declared.bound_names.Named.{Named}

-- the binders, inside those outside
abbrev pub bound_from : List (Option (List ℕ)) → Bound → Bound
bound_from [] outside = outside
bound_from (name ∷ names) outside = bound_from names (name ∷ outside)

-- the name that a binder has, by its place in a list of names
abbrev pub name_of : List (List ℕ) → Option Named → Option (List ℕ)
name_of names None = None
name_of names (Some binder) = slice_get names binder.name

-- the binders with their names
abbrev pub bound_of : List (List ℕ) → List (Option Named) → Bound
bound_of names binders = bound_from (map (name_of names) binders) []

-- how many binders stand outside of the innermost one that has the name
abbrev pub level_of : Bound → List ℕ → Option ℕ
level_of [] name = None
level_of (None ∷ outer) name = level_of outer name
level_of (Some binder ∷ outer) name = if bytes_eq name binder then Some (length outer) else level_of outer name

-- A binder's name is one of the names, and what it keeps is the level that the name has outside.
pub record KeepsOuter (names : List (List ℕ)) (outside : Bound) (binder : Named) : Type 0 where
  pub name : List ℕ
  pub name_is : place_of names name ≡ Some binder.name
  pub outer_is : binder.outer ≡ level_of outside name

abbrev pub KeepsOuterIf : List (List ℕ) → Bound → Option Named → Type 0
KeepsOuterIf names outside None = Unit {0}
KeepsOuterIf names outside (Some binder) = KeepsOuter names outside binder

-- Each binder does, inside those before it.
abbrev pub KeepOuter : List (List ℕ) → Bound → List (Option Named) → Type 0
KeepOuter names outside [] = Unit {0}
KeepOuter names outside (binder ∷ binders) = KeepsOuterIf names outside binder × KeepOuter names (name_of names binder ∷ outside) binders

-- What is kept for the look-up of a name: beside each name that occurred its level.
pub record IsIndexed (names : List (List ℕ)) (levels : List (Option ℕ)) (binders : List (Option Named)) : Type 0 where
  pub few : length binders < 2 ^ 32
  pub count : length levels ≡ length names
  pub levels_are : (name : List ℕ) (place : ℕ) → place_of names name ≡ Some place → get_or levels place None ≡ level_of (bound_of names binders) name
  pub outer_kept : KeepOuter names [] binders

-- The name occurred, or it goes last and has no level.
pub data AddsName (name : List ℕ) (names : List (List ℕ)) (levels : List (Option ℕ)) : List (List ℕ) → List (Option ℕ) → Type 0 where
  name_occurred : AddsName name names levels names levels
  name_is_new : place_of names name ≡ None → AddsName name names levels (names ++ name ∷ []) (levels ++ None ∷ [])
