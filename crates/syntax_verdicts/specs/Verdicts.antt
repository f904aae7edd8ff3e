-- What there is to say of tokens: the declarations of their file, or why they are none.
use Rattle.std.specs.Prelude.{◌≡◌, ℕ, List}
use Rattle.lex_text.specs.declared.token.Token.{Token}
use Rattle.file_trees.specs.declared.decl_tree.DeclTree.{DeclTree}
use Rattle.file_syntax.specs.Files.{IsParsed, IsExpected, IsTooDeep}

-- These are the declarations, or no file goes on at this place, or the nesting is too deep at this place.
pub data Verdict : Type 0 where
  parsed : List DeclTree → Verdict
  expected : ℕ → Verdict
  too_deep : ℕ → Verdict

-- The verdict is true of the tokens of a text of this size.
abbrev pub IsVerdict : List ℕ → List Token → ℕ → Verdict → Type 0
IsVerdict bytes tokens size (parsed declarations) = IsParsed bytes tokens declarations
IsVerdict bytes tokens size (expected place) = IsExpected bytes tokens size place
IsVerdict bytes tokens size (too_deep place) = IsTooDeep bytes tokens place

-- One verdict is true of the tokens, and no other.
pub record HasOneVerdict (bytes : List ℕ) (tokens : List Token) (size : ℕ) : Type 0 where
  pub verdict : Verdict
  pub holds : IsVerdict bytes tokens size verdict
  pub alone : (other : Verdict) → IsVerdict bytes tokens size other → other ≡ verdict

abbrev pub TokensHaveOneVerdict : Type 0
TokensHaveOneVerdict = (bytes : List ℕ) (tokens : List Token) (size : ℕ) → HasOneVerdict bytes tokens size
