-- What there is to say of a text: its tokens, or why it has none.
use Rattle.std.specs.Prelude.{◌≡◌, ℕ, List}
use Rattle.lex_text.specs.declared.token.Token.{Token}
use Rattle.lex_text.specs.Characters.{NotUtf8At}
use Rattle.lex_text.specs.Tokens.{Lexical, TokensOf, WrongText}

-- These are the tokens, or here is the first byte that begins no character, or this is the first thing wrong with the characters.
pub data Verdict : Type 0 where
  are_tokens : List Token → Verdict
  no_utf8 : ℕ → Verdict
  first_wrong : Lexical → Verdict

-- The verdict is true of the bytes.
abbrev pub IsVerdict : List ℕ → Verdict → Type 0
IsVerdict bytes (are_tokens tokens) = TokensOf bytes tokens
IsVerdict bytes (no_utf8 place) = NotUtf8At bytes place
IsVerdict bytes (first_wrong why) = WrongText bytes why

-- One verdict is true of the bytes, and no other.
pub record HasOneVerdict (bytes : List ℕ) : Type 0 where
  pub verdict : Verdict
  pub holds : IsVerdict bytes verdict
  pub alone : (other : Verdict) → IsVerdict bytes other → other ≡ verdict

abbrev pub TextsHaveOneVerdict : Type 0
TextsHaveOneVerdict = (bytes : List ℕ) → HasOneVerdict bytes
