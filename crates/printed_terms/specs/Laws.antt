-- Names and printed terms.
use Rattle.std.specs.Prelude.{◌≡◌, ◌≢◌, ℕ, ◌+◌, ◌<◌, ◌^◌, List, [], ◌∷◌, ◌++◌, length, All}
use Rattle.lf_definitions.specs.Syntax.{LfTerm, LfType}
use Rattle.lf_definitions.specs.Typing.{Typed}
use Rattle.lf_definitions.specs.Signatures.{LfSignature, names_of, typing_in, FormedSignature}
use Rattle.lex_text.specs.declared.token.Token.{Token}
use Rattle.lex_text.specs.Tokens.{TokensOf}
use Rattle.file_trees.specs.Trees.{Tree}
use Rattle.file_syntax.specs.Terminals.{terminals_of}
use Rattle.file_syntax.specs.Productions.{IsTerm}
use Rattle.elab_terms.specs.Terms.{ReadsTerm}
use Rattle.file_elab.specs.GrammarNames.{IsGrammarName}
use Rattle.file_print.specs.Texts.{term_text, type_text}
use Rattle.file_print.specs.Printable.{IsPrintable, IsPrintableType}
use Rattle.printed_tokens.specs.Pieces.{tokens_from, term_pieces}
use Rattle.printed_trees.specs.PrintedTrees.{IsPrintedTerm}
use Rattle.printed_terms.specs.NameBytes.{IsNameByte, IsNoSign, IsNoLineSign}

-- A byte of a name of the grammar is a letter, a digit or an underscore, or of a character above ASCII.
abbrev pub NamesHaveNameBytes : Type 0
NamesHaveNameBytes = (name : List ℕ) → IsGrammarName name → All IsNameByte name

-- It is no space, no line end, and none of the signs.
abbrev pub NamesHaveNoSigns : Type 0
NamesHaveNoSigns = (name : List ℕ) → IsGrammarName name → All IsNoSign name

-- A printed term has no line end, and no sign but parentheses and brackets.
abbrev pub PrintedTermsAreLines : Type 0
PrintedTermsAreLines = (sig : LfSignature) (depth : ℕ) (t : LfTerm) → All IsGrammarName (names_of sig) → IsPrintable sig depth t →
    All IsNoLineSign (term_text sig depth t)

-- Two terms with one text are the same, where a text and the number of binders around it fit in 64 bits.
abbrev pub PrintedTermsAreOne : Type 0
PrintedTermsAreOne = (sig : LfSignature) (depth : ℕ) (t u : LfTerm) → FormedSignature sig → All IsGrammarName (names_of sig) →
    IsPrintable sig depth t → IsPrintable sig depth u → depth + length (term_text sig depth t) < 2 ^ 64 →
    term_text sig depth t ≡ term_text sig depth u → t ≡ u

-- An argument begins with a byte of a name or with a parenthesis, and such text does not.
abbrev pub BeginsNoArgument : List ℕ → Type 0
BeginsNoArgument [] = Unit {0}
BeginsNoArgument (byte ∷ bytes) = (IsNameByte byte → ⊥) × (byte ≢ 40)

-- With such text after it a term goes no further: no name goes on, and after a space no argument begins.
abbrev pub EndsTerm : List ℕ → Type 0
EndsTerm [] = Unit {0}
EndsTerm (byte ∷ bytes) = (IsNameByte byte → ⊥) × (byte ≡ 32 → BeginsNoArgument bytes)

-- A text that begins with a term which ends there begins with no other one.
abbrev pub PrintedTermsEndThemselves : Type 0
PrintedTermsEndThemselves = (sig : LfSignature) (depth : ℕ) (t u : LfTerm) (rest left : List ℕ) → FormedSignature sig → All IsGrammarName (names_of sig) →
    IsPrintable sig depth t → IsPrintable sig depth u → depth + length (term_text sig depth t) < 2 ^ 64 → EndsTerm rest → EndsTerm left →
    term_text sig depth t ++ rest ≡ term_text sig depth u ++ left → (t ≡ u) × (rest ≡ left)

-- Two types with one text are the same, too.
abbrev pub PrintedTypesAreOne : Type 0
PrintedTypesAreOne = (sig : LfSignature) (depth : ℕ) (a b : LfType) → FormedSignature sig → All IsGrammarName (names_of sig) →
    IsPrintableType sig depth a → IsPrintableType sig depth b → depth + length (type_text sig depth a) < 2 ^ 64 →
    type_text sig depth a ≡ type_text sig depth b → a ≡ b

-- A printed term is cut into its tokens, and the grammar reads these as a tree of it.
abbrev pub PrintedTermsHaveTheirTrees : Type 0
PrintedTermsHaveTheirTrees = (sig : LfSignature) (depth : ℕ) (t : LfTerm) → All IsGrammarName (names_of sig) → IsPrintable sig depth t →
    TokensOf (term_text sig depth t) (tokens_from 0 (term_pieces sig depth t))
    × ((tree : Tree) × IsTerm (terminals_of (term_text sig depth t) (tokens_from 0 (term_pieces sig depth t))) [] tree × IsPrintedTerm (term_text sig depth t) sig depth t tree)

-- The text is cut into tokens, which the grammar reads as a term and elaboration, at the type, as this one.
pub record TermReadsBack (sig : LfSignature) (bytes : List ℕ) (a : LfType) (t : LfTerm) : Type 0 where
  pub tokens : List Token
  pub cut : TokensOf bytes tokens
  pub tree : Tree
  pub parsed : IsTerm (terminals_of bytes tokens) [] tree
  pub read : ReadsTerm bytes sig [] (typing_in sig [] []) tree a t

-- What is printed for a closed term reads back at its type, where the names are names of the grammar and the length of the text fits in 64 bits.
abbrev pub PrintedTermsReadBack : Type 0
PrintedTermsReadBack = (sig : LfSignature) (t : LfTerm) (a : LfType) → FormedSignature sig → All IsGrammarName (names_of sig) →
    Typed (typing_in sig [] []) t a → length (term_text sig 0 t) < 2 ^ 64 → TermReadsBack sig (term_text sig 0 t) a t
