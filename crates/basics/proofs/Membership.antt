-- A name has a place in a list exactly where the list has it.
use Rattle.std.proofs.Common.{◌≡◌, ◌↔◌, ℕ, IsTrue, List, Option, Some, None, refl, sym}
use Rattle.std.specs.Prelude.{Contains, is_some, slice_get}
use Rattle.std.proofs.lemmas.Option.{slice_get_within, get_or_from_slice_get}
use Rattle.basics.specs.Places.{place_of}
use Rattle.basics.proofs.NamePlaces.{place_found, place_absent}

pub contained : (names : List (List ℕ)) (name : List ℕ) (p : ℕ) → place_of names name ≡ Some p → Contains names name
contained names name p e =
    let here : slice_get names p ≡ Some name = place_found name names p e in
    (p, slice_get_within names p name here, get_or_from_slice_get names p name name here)

pub not_contained : (names : List (List ℕ)) (name : List ℕ) → place_of names name ≡ None → Contains names name → ⊥
not_contained names name e (k, within, here) = place_absent name names e k name within here

pub placed : (names : List (List ℕ)) (name : List ℕ) (r : Option ℕ) → r ≡ place_of names name → IsTrue (is_some r) ↔ Contains names name
placed names name None e = (λ h. absurd cc, λ has. absurd (not_contained names name (sym e) has))
placed names name (Some p) e = (λ h. contained names name p (sym e), λ has. refl)

pub new_name : (names : List (List ℕ)) (name : List ℕ) → (Contains names name → ⊥) → place_of names name ≡ None
new_name names name none = by (place_of names name) refl
  where
    by : (r : Option ℕ) → r ≡ place_of names name → place_of names name ≡ None
    by None e = sym e
    by (Some p) e = absurd (none (contained names name p (sym e)))
