-- Printed types as pieces: tokens and single spaces.
use Rattle.std.specs.Prelude.{ℕ, suc, ◌+◌, ◌-◌, List, [], ◌∷◌, ◌++◌, codes, length, if◌then◌else◌}
use Rattle.lex_text.specs.declared.mark.Mark.{Mark}
use Rattle.lex_text.specs.declared.mark.Mark.TheVariants.{Word, Var, Colon, Arrow, LParen, RParen, LBrace, RBrace, LBracket, RBracket}
use Rattle.lex_text.specs.declared.token.Token.{Token}
use Rattle.lf_definitions.specs.Syntax.{LfHead, bound, constant, metavariable, LfTerm, lam, at, Spine, no_args, arg, LfType, pi, family}
use Rattle.lf_definitions.specs.Signatures.{LfSignature, constant_names, family_names, name_at}
use Rattle.binder_marks.specs.Mentions.{mentions}
use Rattle.file_print.specs.Texts.{variable_text, is_name, has_binders}

-- a space, or a token with its bytes
pub data Piece : Type 0 where
  space : Piece
  piece : Mark → List ℕ → Piece

abbrev pub piece_text : Piece → List ℕ
piece_text space = codes " "
piece_text (piece mark text) = text

abbrev pub pieces_text : List Piece → List ℕ
pieces_text [] = []
pieces_text (p ∷ ps) = piece_text p ++ pieces_text ps

-- the tokens of pieces, from a place on
abbrev pub tokens_from : ℕ → List Piece → List Token
tokens_from place [] = []
tokens_from place (space ∷ ps) = tokens_from (place + 1) ps
tokens_from place (piece mark text ∷ ps) = record { mark = mark; start = place; end = place + length text } ∷ tokens_from (place + length text) ps

abbrev pub variable_piece : ℕ → Piece
variable_piece count = piece Var (variable_text count)

abbrev pub head_piece : LfSignature → ℕ → LfHead → Piece
head_piece sig depth (bound n) = variable_piece (depth - suc n)
head_piece sig depth (constant c) = piece Word (name_at (constant_names sig) c)
head_piece sig depth (metavariable g) = piece Word []

abbrev pub pieces_in_parentheses : List Piece → List Piece
pieces_in_parentheses pieces = piece LParen (codes "(") ∷ pieces ++ piece RParen (codes ")") ∷ []

abbrev mutual
  pub term_pieces : LfSignature → ℕ → LfTerm → List Piece
  term_pieces sig depth (lam b) =
      piece LBracket (codes "[") ∷ variable_piece depth ∷ piece RBracket (codes "]") ∷ space ∷ term_pieces sig (suc depth) b
  term_pieces sig depth (at h args) = head_piece sig depth h ∷ args_pieces sig depth args

  pub args_pieces : LfSignature → ℕ → Spine → List Piece
  args_pieces sig depth no_args = []
  args_pieces sig depth (arg t ts) =
      space ∷ (if is_name t then term_pieces sig depth t else pieces_in_parentheses (term_pieces sig depth t)) ++ args_pieces sig depth ts

abbrev pub type_pieces : LfSignature → ℕ → LfType → List Piece
type_pieces sig depth (pi a b) =
    (if mentions 0 b
    then piece LBrace (codes "{") ∷ variable_piece depth ∷ piece Colon (codes ":") ∷ type_pieces sig depth a ++ piece RBrace (codes "}") ∷ space ∷ []
    else (if has_binders a then pieces_in_parentheses (type_pieces sig depth a) else type_pieces sig depth a) ++ space ∷ piece Arrow (codes "->") ∷ space ∷ [])
    ++ type_pieces sig (suc depth) b
type_pieces sig depth (family f args) = piece Word (name_at (family_names sig) f) ∷ args_pieces sig depth args
