-- The tokens of a text: the one way to cut it, each token as long as it can be.
use Rattle.std.specs.Prelude.{◌≡◌, ◌≢◌, ℕ, ◌+◌, ◌<◌, ◌≤◌, ◌⊎◌, List, [], ◌∷◌, ◌++◌, codes, slice_range}
use Rattle.std.specs.List.{AllByRecursion}
use Rattle.basics.specs.Limits.{longest_name}
use Rattle.lex_text.specs.declared.mark.Mark.{Mark}
use Rattle.lex_text.specs.declared.mark.Mark.TheVariants.{Word, Var, Number, Colon, Dot, Equals, Arrow, LParen, RParen, LBrace, RBrace, LBracket, RBracket}
use Rattle.lex_text.specs.declared.token.Token.{Token}
use Rattle.lex_text.specs.Characters.{width, Spells, IsSeparator, MayStart, MayContinue, IsDigit}

-- a character that may start an identifier, and all that may continue it
abbrev pub IsWord : List ℕ → Type 0
IsWord [] = ⊥
IsWord (c ∷ cs) = MayStart c × AllByRecursion MayContinue cs

-- an underscore, and all that may continue an identifier
abbrev pub IsVariable : List ℕ → Type 0
IsVariable [] = ⊥
IsVariable (c ∷ cs) = (c ≡ 95) × AllByRecursion MayContinue cs

-- one or more digits
abbrev pub AreDigits : List ℕ → Type 0
AreDigits [] = ⊥
AreDigits (d ∷ ds) = IsDigit d × AllByRecursion IsDigit ds

-- digits, with or without a minus before them
abbrev pub IsNumber : List ℕ → Type 0
IsNumber [] = ⊥
IsNumber (c ∷ cs) = AreDigits (c ∷ cs) ⊎ ((c ≡ 45) × AreDigits cs)

-- what a token of each kind looks like
abbrev pub Forms : Mark → List ℕ → Type 0
Forms Word cs = IsWord cs
Forms Var cs = IsVariable cs
Forms Number cs = IsNumber cs
Forms Colon cs = cs ≡ codes ":"
Forms Dot cs = cs ≡ codes "."
Forms Equals cs = cs ≡ codes "="
Forms Arrow cs = cs ≡ codes "->"
Forms LParen cs = cs ≡ codes "("
Forms RParen cs = cs ≡ codes ")"
Forms LBrace cs = cs ≡ codes "{"
Forms RBrace cs = cs ≡ codes "}"
Forms LBracket cs = cs ≡ codes "["
Forms RBracket cs = cs ≡ codes "]"

-- The prefix of a text is a token of this kind, and no longer prefix of it is a token of any kind.
pub record IsLongest (mark : Mark) (prefix rest : List ℕ) : Type 0 where
  pub forms : Forms mark prefix
  pub longest : (other : Mark) (more left : List ℕ) → rest ≡ more ++ left → Forms other (prefix ++ more) → more ≡ []

-- A word or a variable has at most 255 bytes.
abbrev pub IsShort : Mark → List ℕ → Type 0
IsShort Word prefix = width prefix ≤ longest_name
IsShort Var prefix = width prefix ≤ longest_name
IsShort _ prefix = Unit {0}

-- A comment goes from its percent sign up to the next line feed, or to the end.
abbrev pub IsCommentBefore : List ℕ → List ℕ → Type 0
IsCommentBefore inside [] = AllByRecursion (λ c. c ≢ 10) inside
IsCommentBefore inside (c ∷ rest) = AllByRecursion (λ c. c ≢ 10) inside × (c ≡ 10)

-- These are the tokens of the characters from this place on.
pub data Cut : ℕ → List ℕ → List Token → Type 0 where
  nothing : (place : ℕ) → Cut place [] []
  separator : (place c : ℕ) (rest : List ℕ) (tokens : List Token) →
      IsSeparator c → Cut (place + 1) rest tokens →
      Cut place (c ∷ rest) tokens
  comment : (place c : ℕ) (inside rest text : List ℕ) (tokens : List Token) → c ≡ 37 → text ≡ inside ++ rest →
      IsCommentBefore inside rest → Cut (place + 1 + width inside) rest tokens →
      Cut place (c ∷ text) tokens
  token : (place : ℕ) (prefix rest text : List ℕ) (next : Token) (tokens : List Token) → text ≡ prefix ++ rest →
      IsLongest next.mark prefix rest → IsShort next.mark prefix →
      next.start ≡ place → next.end ≡ place + width prefix → Cut next.end rest tokens →
      Cut place text (next ∷ tokens)

-- Why characters have no tokens.
pub data Lexical : Type 0 where
  bad_character : ℕ → Lexical
  long_name : ℕ → Lexical

-- This is the first thing wrong with the characters from this place on.
pub data Wrong : ℕ → List ℕ → Lexical → Type 0 where
  after_separator : (place c : ℕ) (rest : List ℕ) (why : Lexical) →
      IsSeparator c → Wrong (place + 1) rest why →
      Wrong place (c ∷ rest) why
  after_comment : (place c : ℕ) (inside rest text : List ℕ) (why : Lexical) → c ≡ 37 → text ≡ inside ++ rest →
      IsCommentBefore inside rest → Wrong (place + 1 + width inside) rest why →
      Wrong place (c ∷ text) why
  after_token : (place : ℕ) (mark : Mark) (prefix rest text : List ℕ) (why : Lexical) → text ≡ prefix ++ rest →
      IsLongest mark prefix rest → IsShort mark prefix → Wrong (place + width prefix) rest why →
      Wrong place text why
  -- a character that is no separator and begins neither a comment nor a token
  no_token : (place c : ℕ) (rest : List ℕ) → (IsSeparator c → ⊥) → c ≢ 37 →
      ((mark : Mark) (prefix left : List ℕ) → Forms mark prefix → prefix ++ left ≢ c ∷ rest) →
      Wrong place (c ∷ rest) (bad_character place)
  too_long : (place : ℕ) (mark : Mark) (prefix rest text : List ℕ) → text ≡ prefix ++ rest →
      IsLongest mark prefix rest → (IsShort mark prefix → ⊥) →
      Wrong place text (long_name place)

-- The tokens of a text, by its bytes.
abbrev pub TokensOf : List ℕ → List Token → Type 0
TokensOf bytes tokens = (characters : List ℕ) × Spells characters bytes × Cut 0 characters tokens

-- The first thing wrong with a text, by its bytes.
abbrev pub WrongText : List ℕ → Lexical → Type 0
WrongText bytes why = (characters : List ℕ) × Spells characters bytes × Wrong 0 characters why

-- A token lies within the text and takes at least a byte of it.
pub record IsWithin (size : ℕ) (token : Token) : Type 0 where
  pub some : token.start < token.end
  pub fits : token.end ≤ size

-- the bytes of a token
abbrev pub text_of : List ℕ → Token → List ℕ
text_of bytes piece = slice_range bytes piece.start piece.end
