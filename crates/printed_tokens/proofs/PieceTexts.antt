-- The text of a type is that of its pieces.
use Rattle.std.proofs.Common.{◌≡◌, ℕ, suc, List, [], ◌∷◌, ◌++◌, Bool, true, false, refl, sym, ap, ap₂, ◌∙◌, append_assoc}
use Rattle.std.specs.Prelude.{codes, if◌then◌else◌}
use Rattle.lex_text.specs.declared.mark.Mark.TheVariants.{Colon, Arrow, RParen, LBrace, RBrace}
use Rattle.lf_definitions.specs.Syntax.{LfHead, bound, constant, metavariable, LfTerm, lam, at, Spine, no_args, arg, LfType, pi, family}
use Rattle.lf_definitions.specs.Signatures.{LfSignature, family_names, name_at}
use Rattle.binder_marks.specs.Mentions.{mentions}
use Rattle.file_print.specs.Texts as texts
use Rattle.file_print.specs.Texts.{variable_text, head_text, is_name, term_text, args_text, has_binders, type_text}
use Rattle.printed_tokens.specs.Pieces.{Piece, space, piece, piece_text, pieces_text, variable_piece, head_piece, pieces_in_parentheses, term_pieces, args_pieces, type_pieces}

pub pieces_text-append : (ps qs : List Piece) → pieces_text (ps ++ qs) ≡ pieces_text ps ++ pieces_text qs
pieces_text-append [] qs = refl
pieces_text-append (p ∷ ps) qs =
    ap (λ rest. piece_text p ++ rest) (pieces_text-append ps qs) ∙ sym (append_assoc (piece_text p) (pieces_text ps) (pieces_text qs))

head_same : (sig : LfSignature) (depth : ℕ) (h : LfHead) → piece_text (head_piece sig depth h) ≡ head_text sig depth h
head_same sig depth (bound n) = refl
head_same sig depth (constant c) = refl
head_same sig depth (metavariable g) = refl

in_parentheses_same : (ps : List Piece) (text : List ℕ) → pieces_text ps ≡ text → pieces_text (pieces_in_parentheses ps) ≡ texts.in_parentheses text
in_parentheses_same ps text e =
    ap (λ rest. codes "(" ++ rest) (pieces_text-append ps (piece RParen (codes ")") ∷ []) ∙ ap₂ (λ prefix end. prefix ++ end) e closing)
  where
    closing : pieces_text (piece RParen (codes ")") ∷ []) ≡ codes ")"
    closing = refl

chosen : (b : Bool) (ps qs : List Piece) (xs ys : List ℕ) → pieces_text ps ≡ xs → pieces_text qs ≡ ys →
    pieces_text (if b then ps else qs) ≡ (if b then xs else ys)
chosen true ps qs xs ys e f = e
chosen false ps qs xs ys e f = f

mutual
  pub term_text-pieces : (sig : LfSignature) (depth : ℕ) (t : LfTerm) → pieces_text (term_pieces sig depth t) ≡ term_text sig depth t
  term_text-pieces sig depth (lam b) =
      ap (λ rest. codes "[" ++ (variable_text depth ++ (codes "] " ++ rest))) (term_text-pieces sig (suc depth) b)
      ∙ ap (λ rest. codes "[" ++ rest) (sym (append_assoc (variable_text depth) (codes "] ") (term_text sig (suc depth) b)))
  term_text-pieces sig depth (at h args) = ap₂ (λ prefix rest. prefix ++ rest) (head_same sig depth h) (args_text-pieces sig depth args)

  pub args_text-pieces : (sig : LfSignature) (depth : ℕ) (ts : Spine) → pieces_text (args_pieces sig depth ts) ≡ args_text sig depth ts
  args_text-pieces sig depth no_args = refl
  args_text-pieces sig depth (arg t ts) =
      let here = chosen (is_name t) (term_pieces sig depth t) (pieces_in_parentheses (term_pieces sig depth t)) _ _ (term_text-pieces sig depth t)
      (in_parentheses_same (term_pieces sig depth t) _ (term_text-pieces sig depth t)) in
      ap (λ rest. codes " " ++ rest)
      (pieces_text-append (if is_name t then term_pieces sig depth t else pieces_in_parentheses (term_pieces sig depth t)) (args_pieces sig depth ts)
      ∙ ap₂ (λ prefix rest. prefix ++ rest) here (args_text-pieces sig depth ts))

braced : (depth : ℕ) (ps : List Piece) (text : List ℕ) → pieces_text ps ≡ text →
    pieces_text (piece LBrace (codes "{") ∷ variable_piece depth ∷ piece Colon (codes ":") ∷ ps ++ piece RBrace (codes "}") ∷ space ∷ [])
    ≡ codes "{" ++ variable_text depth ++ codes ":" ++ text ++ codes "} "
braced depth ps text e =
    let prefix = variable_text depth ++ codes ":" in
    ap (λ rest. codes "{" ++ (variable_text depth ++ (codes ":" ++ rest)))
    (pieces_text-append ps (piece RBrace (codes "}") ∷ space ∷ []) ∙ ap₂ (λ inside end. inside ++ end) e closing)
    ∙ ap (λ rest. codes "{" ++ rest) (sym (append_assoc (variable_text depth) (codes ":") (text ++ codes "} ")) ∙ sym (append_assoc prefix text (codes "} ")))
  where
    closing : pieces_text (piece RBrace (codes "}") ∷ space ∷ []) ≡ codes "} "
    closing = refl

pointed : (ps : List Piece) (text : List ℕ) → pieces_text ps ≡ text →
    pieces_text (ps ++ space ∷ piece Arrow (codes "->") ∷ space ∷ []) ≡ text ++ codes " -> "
pointed ps text e = pieces_text-append ps (space ∷ piece Arrow (codes "->") ∷ space ∷ []) ∙ ap₂ (λ prefix end. prefix ++ end) e sign
  where
    sign : pieces_text (space ∷ piece Arrow (codes "->") ∷ space ∷ []) ≡ codes " -> "
    sign = refl

-- the pieces of a binder
abbrev binder_pieces : LfSignature → ℕ → LfType → LfType → List Piece
binder_pieces sig depth a b =
    if mentions 0 b
    then piece LBrace (codes "{") ∷ variable_piece depth ∷ piece Colon (codes ":") ∷ type_pieces sig depth a ++ piece RBrace (codes "}") ∷ space ∷ []
    else (if has_binders a then pieces_in_parentheses (type_pieces sig depth a) else type_pieces sig depth a) ++ space ∷ piece Arrow (codes "->") ∷ space ∷ []

pub type_text-pieces : (sig : LfSignature) (depth : ℕ) (a : LfType) → pieces_text (type_pieces sig depth a) ≡ type_text sig depth a
type_text-pieces sig depth (pi a b) =
    let whole = type_text-pieces sig depth a in
    let left = chosen (has_binders a) (pieces_in_parentheses (type_pieces sig depth a)) (type_pieces sig depth a) _ _ (in_parentheses_same (type_pieces sig depth a) _ whole) whole in
    pieces_text-append (binder_pieces sig depth a b) (type_pieces sig (suc depth) b)
    ∙ ap₂ (λ prefix rest. prefix ++ rest)
    (chosen (mentions 0 b) _ _ _ _ (braced depth (type_pieces sig depth a) _ whole) (pointed (if has_binders a then pieces_in_parentheses (type_pieces sig depth a) else type_pieces sig depth a) _ left))
    (type_text-pieces sig (suc depth) b)
type_text-pieces sig depth (family f args) = ap (λ rest. name_at (family_names sig) f ++ rest) (args_text-pieces sig depth args)
