-- What a set of byte vectors says of the names that a table shows.
use Rattle.std.proofs.Common.{◌≡◌, ℕ, false, cond, List, [], ◌∷◌, ◌++◌, Option, None, sym, ap, ◌∙◌, map, Vec, Global}
use Rattle.std.specs.Str.{bytes_eq}
use Rattle.std.specs.List.{position, list_any}
use Rattle.std.proofs.lemmas.List.{map-append}
use Rattle.indexmap.specs.IndexSet.{insert_key}
use Rattle.basics.specs.Places.{place_of, IsNew}
use Rattle.basics.proofs.PlacesOfImages.{position-map, list_any-from_none}

abbrev pub shown : List (Vec ℕ Global) → List (List ℕ)
shown keys = map (λ key. key.items) keys

-- a look-up among the keys is one among the names
pub place_of-shown : (name : List ℕ) (keys : List (Vec ℕ Global)) (names : List (List ℕ)) (found : Option ℕ) → shown keys ≡ names → found ≡ position (λ key. bytes_eq name key.items) keys → found ≡ place_of names name
place_of-shown name keys names found view is = is ∙ sym (position-map (bytes_eq name) (λ (key : Vec ℕ Global). key.items) keys) ∙ ap (position (bytes_eq name)) view

-- a new name goes last
pub shown-insert_key : (key : Vec ℕ Global) (keys : List (Vec ℕ Global)) (names : List (List ℕ)) (name : List ℕ) → key.items ≡ name → shown keys ≡ names → IsNew names name → shown (insert_key (λ x y. bytes_eq x.items y.items) keys key) ≡ names ++ name ∷ []
shown-insert_key key keys names name is view new =
    let none : position (λ (k : Vec ℕ Global). bytes_eq key.items k.items) keys ≡ None = sym (position-map (bytes_eq key.items) (λ (k : Vec ℕ Global). k.items) keys) ∙ ap (λ ns. position (bytes_eq key.items) ns) view ∙ ap (λ n. position (bytes_eq n) names) is ∙ new in
    let absent : list_any (λ (k : Vec ℕ Global). bytes_eq key.items k.items) keys ≡ false = list_any-from_none (λ (k : Vec ℕ Global). bytes_eq key.items k.items) keys none in
    ap (λ b. shown (cond b keys (keys ++ key ∷ []))) absent ∙ map-append (λ (k : Vec ℕ Global). k.items) keys (key ∷ []) ∙ ap (λ ns. ns ++ key.items ∷ []) view ∙ ap (λ n. names ++ n ∷ []) is
