-- The bytes of names and of printed terms.
use Rattle.std.specs.Prelude.{ℕ, ◌<◌, ◌≢◌, List, ◌∷◌, codes, ◌||◌, ◌==◌, IsTrue}
use Rattle.std.specs.Char.{is_ascii_alphanumeric}
use Rattle.std.specs.List.{AllByRecursion}

-- a letter, a digit or an underscore, or a byte of a character above ASCII
abbrev pub IsNameByte : ℕ → Type 0
IsNameByte byte = byte < 128 → IsTrue (is_ascii_alphanumeric byte || (byte == 95))

-- tab, line feed, carriage return and space, and the signs of the grammar and of documents
abbrev pub signs : List ℕ
signs = 9 ∷ 10 ∷ 13 ∷ codes " /@()[]{}:=.-%"

abbrev pub IsNoSign : ℕ → Type 0
IsNoSign byte = AllByRecursion (λ sign. byte ≢ sign) signs

-- those of them that no printed term has: all but the space, parentheses and brackets
abbrev pub line_signs : List ℕ
line_signs = 9 ∷ 10 ∷ 13 ∷ codes "/@{}:=.-%"

abbrev pub IsNoLineSign : ℕ → Type 0
IsNoLineSign byte = AllByRecursion (λ sign. byte ≢ sign) line_signs
