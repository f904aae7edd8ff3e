-- The tree of a printed type.
use Rattle.std.specs.Prelude.{[], All}
use Rattle.lf_definitions.specs.Syntax.{LfType}
use Rattle.lf_definitions.specs.Signatures.{LfSignature, names_of}
use Rattle.file_trees.specs.Trees.{Classifier}
use Rattle.file_syntax.specs.Terminals.{terminals_of}
use Rattle.file_syntax.specs.Productions.{IsType}
use Rattle.file_elab.specs.GrammarNames.{IsGrammarName}
use Rattle.file_print.specs.Texts.{type_text}
use Rattle.file_print.specs.Printable.{IsPrintableType}
use Rattle.printed_tokens.specs.Pieces.{tokens_from, type_pieces}
use Rattle.printed_trees.specs.PrintedTrees.{IsPrintedType}

-- The grammar reads the tokens of a printed type as a tree of it.
abbrev pub PrintedTypesHaveTheirTrees : Type 0
PrintedTypesHaveTheirTrees = (sig : LfSignature) (a : LfType) → All IsGrammarName (names_of sig) → IsPrintableType sig 0 a →
    (tree : Classifier) × IsType (terminals_of (type_text sig 0 a) (tokens_from 0 (type_pieces sig 0 a))) [] tree × IsPrintedType (type_text sig 0 a) sig 0 a tree
