-- What is read at a place of a text: its characters from there on, a run of them, a token. Places are in bytes.
-- Only the contracts of private functions speak of these; `tokens` speaks of Characters and Tokens alone.
use Rattle.std.specs.Prelude.{◌≡◌, ◌≢◌, ℕ, ◌+◌, ◌<◌, ◌≤◌, ⊤, List, [], ◌∷◌, ◌++◌, length, drop, encode_utf8}
use Rattle.std.specs.Char.{len_utf8}
use Rattle.std.specs.List.{AllByRecursion}
use Rattle.std.specs.Str.{chars, IsUtf8}
use Rattle.basics.specs.Limits.{longest_name}
use Rattle.lex_text.specs.declared.mark.Mark.{Mark}
use Rattle.lex_text.specs.declared.mark.Mark.TheVariants.{Word, Var, Number, Colon, Dot, Equals, Arrow, LParen, RParen, LBrace, RBrace, LBracket, RBracket}
use Rattle.lex_text.specs.declared.run.Run.{Run}
use Rattle.lex_text.specs.declared.run.Run.TheVariants.{Name, Digits, Comment}
use Rattle.lex_text.specs.declared.token.Token.{Token}
use Rattle.lex_text.specs.declared.lex_fault.LexFault.{LexFault}
use Rattle.lex_text.specs.declared.lex_fault.LexFault.TheVariants.{NotUtf8, BadChar, LongName, NoMemory}
use Rattle.lex_text.specs.Characters.{width, MayContinue, IsDigit}
use Rattle.lex_text.specs.Tokens.{Forms, IsLongest, IsShort, Wrong, bad_character, long_name}

-- the characters from a place on
abbrev pub from_place : List ℕ → ℕ → List ℕ
from_place text place = chars (drop place text)

-- The text may be cut at this place.
pub record IsPlace (text : List ℕ) (place : ℕ) : Type 0 where
  pub within : place ≤ length text
  pub utf8 : IsUtf8 (drop place text)

-- This character stands at the place, and the next place is behind it.
pub record Reads (text : List ℕ) (place character next : ℕ) : Type 0 where
  pub spelled : drop place text ≡ encode_utf8 character ++ drop next text
  pub next_is : next ≡ place + len_utf8 character
  pub next_place : IsPlace text next

-- From start up to end stand characters that all pass.
pub record Passes (P : ℕ → Type 0) (text : List ℕ) (start end : ℕ) : Type 0 where
  pub passed : List ℕ
  pub all : AllByRecursion P passed
  pub text_is : from_place text start ≡ passed ++ from_place text end
  pub end_is : end ≡ start + width passed
  pub end_place : IsPlace text end

-- The characters do not begin with one that passes.
abbrev pub StopsBefore : (ℕ → Type 0) → List ℕ → Type 0
StopsBefore P [] = ⊤
StopsBefore P (c ∷ cs) = P c → ⊥

-- the characters of such a run
abbrev pub Belongs : Run → ℕ → Type 0
Belongs Name c = MayContinue c
Belongs Digits c = IsDigit c
Belongs Comment c = c ≢ 10

-- The longest token at the place has this kind, and ends here.
pub record IsTokenAt (text : List ℕ) (place : ℕ) (mark : Mark) (end : ℕ) : Type 0 where
  pub prefix : List ℕ
  pub text_is : from_place text place ≡ prefix ++ from_place text end
  pub longest : IsLongest mark prefix (from_place text end)
  pub end_is : end ≡ place + width prefix
  pub end_place : IsPlace text end
  pub some : place < end

-- No token begins with the characters.
abbrev pub BeginNoToken : List ℕ → Type 0
BeginNoToken text = (mark : Mark) (prefix left : List ℕ) → Forms mark prefix → prefix ++ left ≢ text

-- a token of one character, by its kind
abbrev pub IsSign : Mark → ℕ → Type 0
IsSign Colon c = c ≡ 58
IsSign Dot c = c ≡ 46
IsSign Equals c = c ≡ 61
IsSign LParen c = c ≡ 40
IsSign RParen c = c ≡ 41
IsSign LBrace c = c ≡ 123
IsSign RBrace c = c ≡ 125
IsSign LBracket c = c ≡ 91
IsSign RBracket c = c ≡ 93
IsSign Word c = ⊥
IsSign Var c = ⊥
IsSign Number c = ⊥
IsSign Arrow c = ⊥

-- The token is the longest at the place, and it is not too long.
pub record IsNext (text : List ℕ) (place : ℕ) (token : Token) : Type 0 where
  pub start_is : token.start ≡ place
  pub found : IsTokenAt text place token.mark token.end
  pub short : IsShort token.mark found.prefix

-- The fault is the first thing wrong with the text from the place on.
abbrev pub IsFaultAt : List ℕ → ℕ → LexFault → Type 0
IsFaultAt text place (NotUtf8 p) = ⊥
IsFaultAt text place (BadChar p) = Wrong place (from_place text place) (bad_character p)
IsFaultAt text place (LongName p) = Wrong place (from_place text place) (long_name p)
IsFaultAt text place NoMemory = ⊤

-- A token of this kind may have so many bytes.
abbrev pub IsShortSize : Mark → ℕ → Type 0
IsShortSize Word size = size ≤ longest_name
IsShortSize Var size = size ≤ longest_name
IsShortSize _ size = ⊤
