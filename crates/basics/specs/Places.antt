-- Lists of names, and the places of names in them.
use Rattle.std.specs.Prelude.{◌≡◌, ℕ, List, Option, None}
use Rattle.std.specs.Str.{bytes_eq}
use Rattle.std.specs.List.{position}

-- the place, from 0, of the first name that has these bytes
abbrev pub place_of : List (List ℕ) → List ℕ → Option ℕ
place_of names name = position (bytes_eq name) names

-- No name has these bytes.
abbrev pub IsNew : List (List ℕ) → List ℕ → Type 0
IsNew names name = place_of names name ≡ None
