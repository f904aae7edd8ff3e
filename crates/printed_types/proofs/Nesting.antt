-- How many binders stand around the places of a printed type, by how deep its text is nested.
use Rattle.std.proofs.Common.{◌≡◌, ℕ, suc, ◌+◌, ◌*◌, ◌<◌, ◌≤◌, ◌^◌, List, [], ◌∷◌, ◌++◌, Bool, true, false, length, take, sum, refl, ap, ◌∙◌, subst, arith}
use Rattle.std.specs.Prelude.{codes, if◌then◌else◌}
use Rattle.std.specs.Str.{bytes_eq}
use Rattle.std.proofs.lemmas.List.Sums.{sum_by-cons}
use Rattle.lex_text.specs.declared.mark.Mark.{Mark}
use Rattle.lex_text.specs.declared.mark.Mark.TheVariants.{Word, Var, Number, Colon, Dot, Equals, Arrow, LParen, RParen, LBrace, RBrace, LBracket, RBracket}
use Rattle.file_trees.specs.declared.span.Span.{Span}
use Rattle.file_syntax.specs.declared.terminal.Keyword.{Keyword}
use Rattle.file_syntax.specs.declared.terminal.Terminal.TheVariants as terminals
use Rattle.file_syntax.specs.Terminals.{keyword_of, terminal_of, terminals_of}
use Rattle.file_syntax.specs.Nesting.{one_deeper, one_closed, open_after, open_in, IsShallow}
use Rattle.lex_text.specs.Tokens.{text_of}
use Rattle.lf_definitions.specs.Syntax.{LfHead, bound, constant, metavariable, LfTerm, lam, at, Spine, no_args, arg, LfType, pi, family}
use Rattle.lf_definitions.specs.Signatures.{LfSignature}
use Rattle.binder_marks.specs.Mentions.{mentions}
use Rattle.file_print.specs.Texts.{is_name, has_binders, type_text}
use Rattle.printed_types.specs.Depths.{IsWithinDepth, AreWithinDepth, IsTypeWithinDepth}
use Rattle.printed_tokens.specs.Pieces.{Piece, space, piece, variable_piece, head_piece, pieces_in_parentheses, tokens_from, term_pieces, args_pieces, type_pieces}
use Rattle.printed_types.specs.Limits.{HasFewBinders}

-- the nesting of one more that is open
sum-cons : (count : ℕ) (opened : List ℕ) → sum (count ∷ opened) ≡ count + sum opened
sum-cons count opened = sum_by-cons (λ n. n) count opened

-- what a token opens and closes
abbrev open_marked : Mark → List ℕ → List ℕ
open_marked LParen opened = 1 ∷ opened
open_marked LBrace opened = 1 ∷ opened
open_marked LBracket opened = one_deeper opened
open_marked RParen opened = one_closed opened
open_marked RBrace opened = one_closed opened
open_marked _ opened = opened

abbrev open_piece : Piece → List ℕ → List ℕ
open_piece space opened = opened
open_piece (piece mark text) opened = open_marked mark opened

-- what is open after the pieces
abbrev opened_by : List ℕ → List Piece → List ℕ
opened_by opened [] = opened
opened_by opened (p ∷ ps) = opened_by (open_piece p opened) ps

opened_by-append : (opened : List ℕ) (ps qs : List Piece) → opened_by opened (ps ++ qs) ≡ opened_by (opened_by opened ps) qs
opened_by-append opened [] qs = refl
opened_by-append opened (p ∷ ps) qs = opened_by-append (open_piece p opened) ps qs

-- Nowhere in the pieces is the nesting above 256, where so much is open before.
abbrev ShallowFrom : List ℕ → List Piece → Type 0
ShallowFrom opened [] = sum opened ≤ 256
ShallowFrom opened (p ∷ ps) = (sum opened ≤ 256) × ShallowFrom (open_piece p opened) ps

shallow_first : (opened : List ℕ) (ps : List Piece) → ShallowFrom opened ps → sum opened ≤ 256
shallow_first opened [] h = h
shallow_first opened (p ∷ ps) h = h.0

shallow_prefix : (opened : List ℕ) (ps qs : List Piece) → ShallowFrom opened (ps ++ qs) → ShallowFrom opened ps
shallow_prefix opened [] qs h = shallow_first opened qs h
shallow_prefix opened (p ∷ ps) qs h = (h.0, shallow_prefix (open_piece p opened) ps qs h.1)

shallow_rest : (opened : List ℕ) (ps qs : List Piece) → ShallowFrom opened (ps ++ qs) → ShallowFrom (opened_by opened ps) qs
shallow_rest opened [] qs h = h
shallow_rest opened (p ∷ ps) qs h = shallow_rest (open_piece p opened) ps qs h.1

-- The terminal of a word opens nothing, whichever it is.
word_opens : (is_type : Bool) (keyword : Keyword) (span : Span) (opened : List ℕ) → open_after (if is_type then terminals.TypeWord span else terminals.Word keyword span) opened ≡ opened
word_opens true keyword span opened = refl
word_opens false keyword span opened = refl

-- The terminal of a token opens what its mark does.
terminal_opens : (bytes : List ℕ) (mark : Mark) (start end : ℕ) (opened : List ℕ) → open_after (terminal_of bytes (record { mark = mark; start = start; end = end })) opened ≡ open_marked mark opened
terminal_opens bytes Word start end opened =
    let text = text_of bytes (record { mark = Word; start = start; end = end }) in
    word_opens (bytes_eq text (codes "type")) (keyword_of text) (record { start = start; end = end }) opened
terminal_opens bytes Var start end opened = refl
terminal_opens bytes Number start end opened = refl
terminal_opens bytes Colon start end opened = refl
terminal_opens bytes Dot start end opened = refl
terminal_opens bytes Equals start end opened = refl
terminal_opens bytes Arrow start end opened = refl
terminal_opens bytes LParen start end opened = refl
terminal_opens bytes RParen start end opened = refl
terminal_opens bytes LBrace start end opened = refl
terminal_opens bytes RBrace start end opened = refl
terminal_opens bytes LBracket start end opened = refl
terminal_opens bytes RBracket start end opened = refl

-- Pieces are nested as the terminals of their tokens are.
shallow_pieces : (bytes : List ℕ) (place : ℕ) (opened : List ℕ) (ps : List Piece) →
    ((count : ℕ) → sum (open_in opened (take count (terminals_of bytes (tokens_from place ps)))) ≤ 256) → ShallowFrom opened ps
shallow_pieces bytes place opened [] h = h 0
shallow_pieces bytes place opened (space ∷ ps) h = (h 0, shallow_pieces bytes (place + 1) opened ps h)
shallow_pieces bytes place opened (piece mark text ∷ ps) h =
    let after = place + length text in (
      h 0,
      shallow_pieces bytes after (open_marked mark opened) ps
          (λ count. subst (λ o. sum (open_in o (take count (terminals_of bytes (tokens_from after ps)))) ≤ 256) (terminal_opens bytes mark place after opened) (h (suc count))),
    )

-- After pieces in parentheses nothing more is open, where those within close what they open but for abstractions.
parentheses_close : (ps : List Piece) (opened : List ℕ) (count : ℕ) → opened_by (1 ∷ opened) ps ≡ count ∷ opened → opened_by opened (pieces_in_parentheses ps) ≡ opened
parentheses_close ps opened count inside = opened_by-append (1 ∷ opened) ps (piece RParen (codes ")") ∷ []) ∙ ap one_closed inside

-- the pieces of a binder whose type has these
abbrev binder_pieces : (mentioned has : Bool) → ℕ → List Piece → List Piece
binder_pieces mentioned has depth ps =
    if mentioned then piece LBrace (codes "{") ∷ variable_piece depth ∷ piece Colon (codes ":") ∷ ps ++ piece RBrace (codes "}") ∷ space ∷ []
    else (if has then pieces_in_parentheses ps else ps) ++ space ∷ piece Arrow (codes "->") ∷ space ∷ []

module _ (sig : LfSignature) where
  head_opens : (depth : ℕ) (h : LfHead) (opened : List ℕ) → open_piece (head_piece sig depth h) opened ≡ opened
  head_opens depth (bound n) opened = refl
  head_opens depth (constant c) opened = refl
  head_opens depth (metavariable g) opened = refl

  -- After a term nothing more is open, but for its abstractions within the innermost parenthesis.
  abbrev Deepens : ℕ → LfTerm → Type 0
  Deepens depth t = (count : ℕ) (opened : List ℕ) → (deeper : ℕ) × (opened_by (count ∷ opened) (term_pieces sig depth t) ≡ deeper ∷ opened)

  abbrev argument_pieces : ℕ → LfTerm → List Piece
  argument_pieces depth t = if is_name t then term_pieces sig depth t else pieces_in_parentheses (term_pieces sig depth t)

  argument_closes : (depth : ℕ) (t : LfTerm) (opened : List ℕ) → Deepens depth t → opened_by opened (argument_pieces depth t) ≡ opened
  argument_closes depth (at h no_args) opened inside = head_opens depth h opened
  argument_closes depth (lam b) opened inside = let within = inside 1 opened in parentheses_close (term_pieces sig depth (lam b)) opened within.0 within.1
  argument_closes depth (at h (arg t ts)) opened inside =
      let within = inside 1 opened in parentheses_close (term_pieces sig depth (at h (arg t ts))) opened within.0 within.1

  mutual
    term_deepens : (depth : ℕ) (t : LfTerm) → Deepens depth t
    term_deepens depth (lam b) = λ count opened. term_deepens (suc depth) b (suc count) opened
    term_deepens depth (at h args) = λ count opened.
        (count, ap (λ o. opened_by o (args_pieces sig depth args)) (head_opens depth h (count ∷ opened)) ∙ args_close depth args (count ∷ opened))

    args_close : (depth : ℕ) (ts : Spine) (opened : List ℕ) → opened_by opened (args_pieces sig depth ts) ≡ opened
    args_close depth no_args opened = refl
    args_close depth (arg t ts) opened =
        opened_by-append opened (argument_pieces depth t) (args_pieces sig depth ts)
        ∙ ap (λ o. opened_by o (args_pieces sig depth ts)) (argument_closes depth t opened (term_deepens depth t)) ∙ args_close depth ts opened

  left_closes : (has : Bool) (ps : List Piece) (opened : List ℕ) → ((outer : List ℕ) → opened_by outer ps ≡ outer) →
      opened_by opened (if has then pieces_in_parentheses ps else ps) ≡ opened
  left_closes true ps opened inside = parentheses_close ps opened 1 (inside (1 ∷ opened))
  left_closes false ps opened inside = inside opened

  binder_closes : (mentioned has : Bool) (depth : ℕ) (ps : List Piece) (opened : List ℕ) → ((outer : List ℕ) → opened_by outer ps ≡ outer) →
      opened_by opened (binder_pieces mentioned has depth ps) ≡ opened
  binder_closes true has depth ps opened inside = opened_by-append (1 ∷ opened) ps (piece RBrace (codes "}") ∷ space ∷ []) ∙ ap one_closed (inside (1 ∷ opened))
  binder_closes false has depth ps opened inside =
      opened_by-append opened (if has then pieces_in_parentheses ps else ps) (space ∷ piece Arrow (codes "->") ∷ space ∷ []) ∙ left_closes has ps opened inside

  -- After a type nothing more is open.
  type_closes : (depth : ℕ) (a : LfType) (opened : List ℕ) → opened_by opened (type_pieces sig depth a) ≡ opened
  type_closes depth (family f args) opened = args_close depth args opened
  type_closes depth (pi a b) opened =
      let prefix = binder_pieces (mentions 0 b) (has_binders a) depth (type_pieces sig depth a) in
      opened_by-append opened prefix (type_pieces sig (suc depth) b)
      ∙ ap (λ o. opened_by o (type_pieces sig (suc depth) b)) (binder_closes (mentions 0 b) (has_binders a) depth (type_pieces sig depth a) opened (type_closes depth a))
      ∙ type_closes (suc depth) b opened

  -- So many binders may stand around a place where so much is open: a parenthesis, a brace or an abstraction adds one at most and the binders of one type.
  abbrev FitsTerm : ℕ → List ℕ → Type 0
  FitsTerm depth opened = depth ≤ 1001 * sum opened + 1000

  -- The places of a term are within the depth, wherever it stands in a parenthesis or a brace.
  abbrev BoundsTerm : ℕ → LfTerm → Type 0
  BoundsTerm depth t = (count : ℕ) (opened : List ℕ) → FitsTerm depth (count ∷ opened) → ShallowFrom (count ∷ opened) (term_pieces sig depth t) → IsWithinDepth (2 ^ 64) depth t

  small_depth : (depth : ℕ) (opened : List ℕ) → FitsTerm depth opened → sum opened ≤ 256 → depth < 2 ^ 64
  small_depth depth opened fits shallow = omega (arith, fits, shallow)

  deeper_fits : (depth : ℕ) (opened : List ℕ) → FitsTerm depth opened → FitsTerm depth (1 ∷ opened)
  deeper_fits depth opened fits = omega (arith, fits, sum-cons 1 opened)

  abstraction_fits : (depth count : ℕ) (opened : List ℕ) → FitsTerm depth (count ∷ opened) → FitsTerm (suc depth) (suc count ∷ opened)
  abstraction_fits depth count opened fits = omega (arith, fits, sum-cons count opened, sum-cons (suc count) opened)

  enclosed_bounded : (depth : ℕ) (t : LfTerm) (opened : List ℕ) → FitsTerm depth opened → BoundsTerm depth t →
      ShallowFrom opened (pieces_in_parentheses (term_pieces sig depth t)) → IsWithinDepth (2 ^ 64) depth t
  enclosed_bounded depth t opened fits inside shallow =
      inside 1 opened (deeper_fits depth opened fits) (shallow_prefix (1 ∷ opened) (term_pieces sig depth t) (piece RParen (codes ")") ∷ []) shallow.1)

  argument_bounded : (depth : ℕ) (t : LfTerm) (opened : List ℕ) → FitsTerm depth opened → BoundsTerm depth t → ShallowFrom opened (argument_pieces depth t) → IsWithinDepth (2 ^ 64) depth t
  argument_bounded depth (at h no_args) opened fits inside shallow = (small_depth depth opened fits shallow.0, tt)
  argument_bounded depth (lam b) opened fits inside shallow = enclosed_bounded depth (lam b) opened fits inside shallow
  argument_bounded depth (at h (arg t ts)) opened fits inside shallow = enclosed_bounded depth (at h (arg t ts)) opened fits inside shallow

  mutual
    term_bounded : (depth : ℕ) (t : LfTerm) → BoundsTerm depth t
    term_bounded depth (lam b) = λ count opened fits shallow. term_bounded (suc depth) b (suc count) opened (abstraction_fits depth count opened fits) shallow.1.1.1.1
    term_bounded depth (at h args) = λ count opened fits shallow. (
      small_depth depth (count ∷ opened) fits shallow.0,
      args_bounded depth args (count ∷ opened) fits (subst (λ o. ShallowFrom o (args_pieces sig depth args)) (head_opens depth h (count ∷ opened)) shallow.1),
    )

    args_bounded : (depth : ℕ) (ts : Spine) (opened : List ℕ) → FitsTerm depth opened → ShallowFrom opened (args_pieces sig depth ts) → AreWithinDepth (2 ^ 64) depth ts
    args_bounded depth no_args opened fits shallow = tt
    args_bounded depth (arg t ts) opened fits shallow =
        let ps = argument_pieces depth t in
        let rest = args_pieces sig depth ts in (
          argument_bounded depth t opened fits (term_bounded depth t) (shallow_prefix opened ps rest shallow.1),
          args_bounded depth ts opened fits
              (subst (λ o. ShallowFrom o rest) (argument_closes depth t opened (term_deepens depth t)) (shallow_rest opened ps rest shallow.1)),
        )

  family_bounded : (depth f : ℕ) (args : Spine) (opened : List ℕ) → FitsTerm depth opened → ShallowFrom opened (type_pieces sig depth (family f args)) →
      IsTypeWithinDepth (2 ^ 64) depth (family f args)
  family_bounded depth f args opened fits shallow = (small_depth depth opened fits shallow.0, args_bounded depth args opened fits shallow.1)

  -- The places of a type are within the depth, where it stands in a parenthesis or a brace of its own.
  abbrev BoundsType : ℕ → LfType → Type 0
  BoundsType depth a = (opened : List ℕ) → FitsTerm depth opened → ShallowFrom (1 ∷ opened) (type_pieces sig depth a) → IsTypeWithinDepth (2 ^ 64) depth a

  left_bounded : (depth : ℕ) (a : LfType) (opened : List ℕ) → FitsTerm depth opened → BoundsType depth a →
      ShallowFrom opened (if has_binders a then pieces_in_parentheses (type_pieces sig depth a) else type_pieces sig depth a) → IsTypeWithinDepth (2 ^ 64) depth a
  left_bounded depth (family f args) opened fits inside shallow = family_bounded depth f args opened fits shallow
  left_bounded depth (pi a b) opened fits inside shallow =
      inside opened fits (shallow_prefix (1 ∷ opened) (type_pieces sig depth (pi a b)) (piece RParen (codes ")") ∷ []) shallow.1)

  binder_bounded : (mentioned : Bool) (depth : ℕ) (a : LfType) (opened : List ℕ) → FitsTerm depth opened → BoundsType depth a →
      ShallowFrom opened (binder_pieces mentioned (has_binders a) depth (type_pieces sig depth a)) → IsTypeWithinDepth (2 ^ 64) depth a
  binder_bounded true depth a opened fits inside shallow =
      inside opened fits (shallow_prefix (1 ∷ opened) (type_pieces sig depth a) (piece RBrace (codes "}") ∷ space ∷ []) shallow.1.1.1)
  binder_bounded false depth a opened fits inside shallow =
      left_bounded depth a opened fits inside
      (shallow_prefix opened (if has_binders a then pieces_in_parentheses (type_pieces sig depth a) else type_pieces sig depth a) (space ∷ piece Arrow (codes "->") ∷ space ∷ []) shallow)

  type_bounded : (depth count : ℕ) (a : LfType) (opened : List ℕ) → depth ≤ 1001 * sum opened + count → count ≤ 1000 → HasFewBinders count a →
      ShallowFrom opened (type_pieces sig depth a) → IsTypeWithinDepth (2 ^ 64) depth a
  type_bounded depth count (family f args) opened fits few has shallow = family_bounded depth f args opened (omega (arith, fits, few)) shallow
  type_bounded depth count (pi a b) opened fits few has shallow =
      let prefix = binder_pieces (mentions 0 b) (has_binders a) depth (type_pieces sig depth a) in
      let rest = type_pieces sig (suc depth) b in (
        binder_bounded (mentions 0 b) depth a opened (omega (arith, fits, few))
            (λ outer fit. type_bounded depth 0 a (1 ∷ outer) (omega (arith, fit, sum-cons 1 outer)) (omega arith) has.1) (shallow_prefix opened prefix rest shallow),
        type_bounded (suc depth) (suc count) b opened (omega (arith, fits)) has.0 has.2
            (subst (λ o. ShallowFrom o rest) (binder_closes (mentions 0 b) (has_binders a) depth (type_pieces sig depth a) opened (type_closes depth a))
            (shallow_rest opened prefix rest shallow)),
      )

-- Where the text of a type is nested at most 256 deep and no type within it has more than 1,000 binders, fewer than 2^64 stand around each place.
pub depth_bounded : (sig : LfSignature) (a : LfType) → HasFewBinders 0 a → IsShallow (terminals_of (type_text sig 0 a) (tokens_from 0 (type_pieces sig 0 a))) →
    IsTypeWithinDepth (2 ^ 64) 0 a
depth_bounded sig a few shallow = type_bounded sig 0 0 a [] (omega arith) (omega arith) few (shallow_pieces (type_text sig 0 a) 0 [] (type_pieces sig 0 a) shallow)
