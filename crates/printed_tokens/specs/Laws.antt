-- The tokens of a printed type.
use Rattle.std.specs.Prelude.{◌≡◌, All}
use Rattle.lf_definitions.specs.Syntax.{LfType}
use Rattle.lf_definitions.specs.Signatures.{LfSignature, names_of}
use Rattle.lex_text.specs.Tokens.{TokensOf}
use Rattle.file_elab.specs.GrammarNames.{IsGrammarName}
use Rattle.file_print.specs.Texts.{type_text}
use Rattle.file_print.specs.Printable.{IsPrintableType}
use Rattle.printed_tokens.specs.Pieces.{pieces_text, tokens_from, type_pieces}

-- A printed type is its pieces, and its tokens are those of the pieces.
abbrev pub PrintedTypesAreTheirTokens : Type 0
PrintedTypesAreTheirTokens = (sig : LfSignature) (a : LfType) → All IsGrammarName (names_of sig) → IsPrintableType sig 0 a →
    (type_text sig 0 a ≡ pieces_text (type_pieces sig 0 a)) × TokensOf (type_text sig 0 a) (tokens_from 0 (type_pieces sig 0 a))
