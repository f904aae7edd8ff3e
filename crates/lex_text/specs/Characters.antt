-- Texts as lists of characters, and the bytes that spell them.
use Rattle.std.specs.Prelude.{◌≡◌, ◌≢◌, ℕ, ◌≤◌, ◌⊎◌, List, [], ◌++◌, length, encode_utf8, encode_utf8_all, IsTrue}
use Rattle.std.specs.Char.{IsScalar}
use Rattle.std.specs.List.{AllByRecursion}
use Rattle.unicode_ident.specs.Ident.{is_xid_start, is_xid_continue}

-- how many bytes characters take
abbrev pub width : List ℕ → ℕ
width characters = length (encode_utf8_all characters)

-- The bytes are the UTF-8 form of the characters.
pub record Spells (characters bytes : List ℕ) : Type 0 where
  pub scalars : AllByRecursion IsScalar characters
  pub encoded : encode_utf8_all characters ≡ bytes

-- Bytes from which no character can be read: there is one, and none of the characters begins them.
pub record NoCharacter (bytes : List ℕ) : Type 0 where
  pub some_left : bytes ≢ []
  pub none_begins : (character : ℕ) (rest : List ℕ) → IsScalar character → encode_utf8 character ++ rest ≢ bytes

-- The first byte that begins no valid character stands at this place.
abbrev pub NotUtf8At : List ℕ → ℕ → Type 0
NotUtf8At bytes place = (prefix : List ℕ) × (rest : List ℕ) × AllByRecursion IsScalar prefix
    × (encode_utf8_all prefix ++ rest ≡ bytes) × (width prefix ≡ place) × NoCharacter rest

-- space, tab, carriage return and line feed
abbrev pub IsSeparator : ℕ → Type 0
IsSeparator c = (c ≡ 32) ⊎ (c ≡ 9) ⊎ (c ≡ 13) ⊎ (c ≡ 10)

-- a character that may start an identifier, and one that may continue it
abbrev pub MayStart : ℕ → Type 0
MayStart c = IsTrue (is_xid_start c)

abbrev pub MayContinue : ℕ → Type 0
MayContinue c = IsTrue (is_xid_continue c)

abbrev pub IsDigit : ℕ → Type 0
IsDigit c = (48 ≤ c) × (c ≤ 57)
