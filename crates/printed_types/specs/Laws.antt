-- Printed types read back.
use Rattle.std.specs.Prelude.{ℕ, ◌^◌, [], List, All}
use Rattle.lf_definitions.specs.Syntax.{LfType}
use Rattle.lf_definitions.specs.Typing.{Formed}
use Rattle.lf_definitions.specs.Signatures.{LfSignature, names_of, kinds_in, typing_in, FormedSignature}
use Rattle.lex_text.specs.declared.token.Token.{Token}
use Rattle.lex_text.specs.Tokens.{TokensOf}
use Rattle.file_trees.specs.Trees.{Classifier}
use Rattle.file_syntax.specs.Terminals.{terminals_of}
use Rattle.file_syntax.specs.Productions.{IsType}
use Rattle.file_syntax.specs.Nesting.{IsShallow}
use Rattle.elab_terms.specs.Names.{Text}
use Rattle.elab_terms.specs.Types.{ReadsType}
use Rattle.file_elab.specs.GrammarNames.{IsGrammarName}
use Rattle.file_print.specs.Texts.{type_text}
use Rattle.printed_types.specs.Depths.{IsTypeWithinDepth}
use Rattle.printed_trees.specs.PrintedTrees.{IsPrintedType}
use Rattle.printed_types.specs.Limits.{HasFewBinders}

-- Elaborating a tree of a printed type gives the type.
abbrev pub PrintedTreesAreReadBack : Type 0
PrintedTreesAreReadBack = (text : Text) (sig : LfSignature) (a : LfType) (tree : Classifier) → FormedSignature sig → All IsGrammarName (names_of sig) →
    Formed (kinds_in sig) (typing_in sig [] []) a → HasFewBinders 0 a → IsTypeWithinDepth (2 ^ 64) 0 a → IsPrintedType text sig 0 a tree →
    ReadsType text sig [] (typing_in sig [] []) 0 tree a

-- The text is cut into tokens, which the grammar reads as a type and elaboration as this one.
pub record ReadsBack (sig : LfSignature) (bytes : List ℕ) (a : LfType) : Type 0 where
  pub tokens : List Token
  pub cut : TokensOf bytes tokens
  pub tree : Classifier
  pub parsed : IsType (terminals_of bytes tokens) [] tree
  pub shallow : IsShallow (terminals_of bytes tokens)
  pub read : ReadsType bytes sig [] (typing_in sig [] []) 0 tree a

-- What is printed for a well-formed type reads back, where the names are names of the grammar, no type within it has more than 1,000 binders,
-- and the text is nested at most 256 deep.
abbrev pub PrintedTypesReadBack : Type 0
PrintedTypesReadBack = (sig : LfSignature) (a : LfType) → FormedSignature sig → All IsGrammarName (names_of sig) →
    Formed (kinds_in sig) (typing_in sig [] []) a → HasFewBinders 0 a →
    ((tokens : List Token) → TokensOf (type_text sig 0 a) tokens → IsShallow (terminals_of (type_text sig 0 a) tokens)) → ReadsBack sig (type_text sig 0 a) a
