-- The pieces of terms and types are spelled, before pieces that a name ends before.
use Rattle.std.proofs.Common.{◌≡◌, ℕ, zero, suc, ◌-◌, ◌<◌, List, [], ◌∷◌, ◌++◌, Bool, true, false, length, sym, subst, append_assoc, arith}
use Rattle.std.specs.Prelude.{codes, if◌then◌else◌, All}
use Rattle.std.proofs.lemmas.List.{append-nil}
use Rattle.lex_text.specs.declared.mark.Mark.TheVariants.{Colon, Arrow, LParen, RParen, LBrace, RBrace, RBracket}
use Rattle.lex_text.specs.Characters.{Spells}
use Rattle.lex_text.specs.Tokens.{TokensOf}
use Rattle.lf_definitions.specs.Syntax.{LfHead, bound, constant, metavariable, LfTerm, lam, at, Spine, no_args, arg, LfType, pi, family}
use Rattle.lf_definitions.specs.Signatures.{LfSignature, family_entry, constant_entry, names_of, constant_names, family_names, name_at}
use Rattle.file_elab.specs.GrammarNames.{IsGrammarName}
use Rattle.binder_marks.specs.Mentions.{mentions}
use Rattle.file_print.specs.Printable.{IsPrintableHead, IsPrintable, ArePrintable, IsPrintableType}
use Rattle.file_print.specs.Texts.{is_name, term_text, has_binders, type_text}
use Rattle.printed_tokens.specs.Pieces.{Piece, space, piece, variable_piece, head_piece, pieces_in_parentheses, pieces_text, tokens_from, term_pieces, args_pieces, type_pieces}
use Rattle.printed_tokens.proofs.PieceTexts.{term_text-pieces, type_text-pieces}
use Rattle.printed_tokens.proofs.Spelled.{Cut-Spelled, Spells-Spelled}
use Rattle.printed_tokens.proofs.Names.{Begins, Follows, followed, nothing_follows, space_follows, opening_begins, bracket_begins, brace_begins, arrow_begins, closing_follows, bracket_follows, brace_follows, colon_follows, name_begins, variable_begins}

-- The names of constants and of families are names of the grammar.
pub record AreNamed (sig : LfSignature) : Type 0 where
  pub constants : (c : ℕ) → c < length (constant_names sig) → IsGrammarName (name_at (constant_names sig) c)
  pub families : (f : ℕ) → f < length (family_names sig) → IsGrammarName (name_at (family_names sig) f)

module _ (sig : LfSignature) (named : AreNamed sig) where
  head_begins : (depth : ℕ) (h : LfHead) (ps : List Piece) → IsPrintableHead sig depth h → Follows ps → Begins (head_piece sig depth h ∷ ps)
  head_begins depth (bound n) ps printable after = variable_begins (depth - suc n) ps after
  head_begins depth (constant c) ps printable after = name_begins (name_at (constant_names sig) c) ps (named.constants c printable) after
  head_begins depth (metavariable g) ps printable after = absurd printable

  enclosed : (ps qs : List Piece) → ((after : List Piece) → Follows after → Begins (ps ++ after)) → Begins qs → Begins (pieces_in_parentheses ps ++ qs)
  enclosed ps qs inside after =
      subst (λ l. Begins (piece LParen (codes "(") ∷ l)) (sym (append_assoc ps (piece RParen (codes ")") ∷ []) qs))
      (opening_begins (ps ++ piece RParen (codes ")") ∷ qs) (inside (piece RParen (codes ")") ∷ qs) (closing_follows qs after)))

  argument_begins : (b : Bool) (ps after : List Piece) → ((qs : List Piece) → Follows qs → Begins (ps ++ qs)) → Follows after →
      Begins ((if b then ps else pieces_in_parentheses ps) ++ after)
  argument_begins true ps after inside follows = inside after follows
  argument_begins false ps after inside follows = enclosed ps after inside (followed after follows)

  mutual
    term_begins : (depth : ℕ) (t : LfTerm) (after : List Piece) → IsPrintable sig depth t → Follows after → Begins (term_pieces sig depth t ++ after)
    term_begins depth (lam b) after printable follows =
        let body = term_begins (suc depth) b after printable follows in
        let rest = space ∷ term_pieces sig (suc depth) b ++ after in
        bracket_begins (variable_piece depth ∷ piece RBracket (codes "]") ∷ rest)
        (variable_begins depth (piece RBracket (codes "]") ∷ rest)
        (bracket_follows rest (followed rest (space_follows (term_pieces sig (suc depth) b ++ after) body))))
    term_begins depth (at h args) after printable follows =
        head_begins depth h (args_pieces sig depth args ++ after) printable.0 (args_follow depth args after printable.1 follows)

    args_follow : (depth : ℕ) (ts : Spine) (after : List Piece) → ArePrintable sig depth ts → Follows after → Follows (args_pieces sig depth ts ++ after)
    args_follow depth no_args after printable follows = follows
    args_follow depth (arg t ts) after printable follows =
        let rest = args_pieces sig depth ts ++ after in
        let here = if is_name t then term_pieces sig depth t else pieces_in_parentheses (term_pieces sig depth t) in
        subst (λ l. Follows (space ∷ l)) (sym (append_assoc here (args_pieces sig depth ts) after))
        (space_follows (here ++ rest)
        (argument_begins (is_name t) (term_pieces sig depth t) rest (λ qs follow. term_begins depth t qs printable.0 follow)
        (args_follow depth ts after printable.1 follows)))

  braced_begins : (depth : ℕ) (ps after : List Piece) → ((qs : List Piece) → Follows qs → Begins (ps ++ qs)) → Begins after →
      Begins ((piece LBrace (codes "{") ∷ variable_piece depth ∷ piece Colon (codes ":") ∷ ps ++ piece RBrace (codes "}") ∷ space ∷ []) ++ after)
  braced_begins depth ps after inside begins =
      let end = piece RBrace (codes "}") ∷ space ∷ after in
      subst (λ l. Begins (piece LBrace (codes "{") ∷ variable_piece depth ∷ piece Colon (codes ":") ∷ l)) (sym (append_assoc ps (piece RBrace (codes "}") ∷ space ∷ []) after))
      (brace_begins (variable_piece depth ∷ piece Colon (codes ":") ∷ ps ++ end)
      (variable_begins depth (piece Colon (codes ":") ∷ ps ++ end)
      (colon_follows (ps ++ end) (inside end (brace_follows (space ∷ after) (followed (space ∷ after) (space_follows after begins)))))))

  pointed_begins : (b : Bool) (ps after : List Piece) → ((qs : List Piece) → Follows qs → Begins (ps ++ qs)) → Begins after →
      Begins (((if b then pieces_in_parentheses ps else ps) ++ space ∷ piece Arrow (codes "->") ∷ space ∷ []) ++ after)
  pointed_begins b ps after inside begins =
      let end = space ∷ piece Arrow (codes "->") ∷ space ∷ after in
      let follows : Follows end = space_follows (piece Arrow (codes "->") ∷ space ∷ after)
      (arrow_begins (space ∷ after) (followed (space ∷ after) (space_follows after begins))) in
      subst Begins (sym (append_assoc (if b then pieces_in_parentheses ps else ps) (space ∷ piece Arrow (codes "->") ∷ space ∷ []) after)) (left_begins b ps end inside follows)
    where
      left_begins : (b : Bool) (ps end : List Piece) → ((qs : List Piece) → Follows qs → Begins (ps ++ qs)) → Follows end → Begins ((if b then pieces_in_parentheses ps else ps) ++ end)
      left_begins true ps end inside follows = enclosed ps end inside (followed end follows)
      left_begins false ps end inside follows = inside end follows

  binder_begins : (m b : Bool) (depth : ℕ) (ps after : List Piece) → ((qs : List Piece) → Follows qs → Begins (ps ++ qs)) → Begins after →
      Begins ((if m then piece LBrace (codes "{") ∷ variable_piece depth ∷ piece Colon (codes ":") ∷ ps ++ piece RBrace (codes "}") ∷ space ∷ []
      else (if b then pieces_in_parentheses ps else ps) ++ space ∷ piece Arrow (codes "->") ∷ space ∷ []) ++ after)
  binder_begins true b depth ps after inside begins = braced_begins depth ps after inside begins
  binder_begins false b depth ps after inside begins = pointed_begins b ps after inside begins

  type_begins : (depth : ℕ) (a : LfType) (after : List Piece) → IsPrintableType sig depth a → Follows after → Begins (type_pieces sig depth a ++ after)
  type_begins depth (pi a b) after printable follows =
      let prefix = if mentions 0 b
      then piece LBrace (codes "{") ∷ variable_piece depth ∷ piece Colon (codes ":") ∷ type_pieces sig depth a ++ piece RBrace (codes "}") ∷ space ∷ []
      else (if has_binders a then pieces_in_parentheses (type_pieces sig depth a) else type_pieces sig depth a) ++ space ∷ piece Arrow (codes "->") ∷ space ∷ [] in
      subst Begins (sym (append_assoc prefix (type_pieces sig (suc depth) b) after))
      (binder_begins (mentions 0 b) (has_binders a) depth (type_pieces sig depth a) (type_pieces sig (suc depth) b ++ after)
      (λ qs follow. type_begins depth a qs printable.0 follow) (type_begins (suc depth) b after printable.1 follows))
  type_begins depth (family f args) after printable follows =
      name_begins (name_at (family_names sig) f) (args_pieces sig depth args ++ after) (named.families f printable.0) (args_follow depth args after printable.1 follows)

-- an entry more, and the others
module _ (P : List ℕ → Type 0) where
  later : (name : List ℕ) (names : List (List ℕ)) → All P (name ∷ names) → All P names
  later name names all k other within = all (suc k) other (omega (arith, within))

constants_named : (sig : LfSignature) → All IsGrammarName (names_of sig) → (c : ℕ) → c < length (constant_names sig) → IsGrammarName (name_at (constant_names sig) c)
constants_named [] all c within = absurd (omega arith)
constants_named (family_entry name kind ∷ sig) all c within = constants_named sig (later IsGrammarName name (names_of sig) all) c within
constants_named (constant_entry name type ∷ sig) all zero within = all 0 name (omega arith)
constants_named (constant_entry name type ∷ sig) all (suc c) within = constants_named sig (later IsGrammarName name (names_of sig) all) c (omega (arith, within))

families_named : (sig : LfSignature) → All IsGrammarName (names_of sig) → (f : ℕ) → f < length (family_names sig) → IsGrammarName (name_at (family_names sig) f)
families_named [] all f within = absurd (omega arith)
families_named (constant_entry name type ∷ sig) all f within = families_named sig (later IsGrammarName name (names_of sig) all) f within
families_named (family_entry name kind ∷ sig) all zero within = all 0 name (omega arith)
families_named (family_entry name kind ∷ sig) all (suc f) within = families_named sig (later IsGrammarName name (names_of sig) all) f (omega (arith, within))

pub are_named : (sig : LfSignature) → All IsGrammarName (names_of sig) → AreNamed sig
are_named sig all = record { constants = constants_named sig all; families = families_named sig all }

-- The tokens of a text are those of its pieces, where these are spelled.
tokens_of_pieces : (text : List ℕ) (ps : List Piece) → pieces_text ps ≡ text → Begins ps → TokensOf text (tokens_from 0 ps)
tokens_of_pieces text ps same begins = (
  begins.characters,
  subst (λ bytes. Spells begins.characters bytes) same (Spells-Spelled ps begins.characters begins.spelled),
  Cut-Spelled 0 ps begins.characters begins.spelled,
)

-- The tokens of a printed term are those of its pieces,
pub term_tokens : (sig : LfSignature) (depth : ℕ) (t : LfTerm) → All IsGrammarName (names_of sig) → IsPrintable sig depth t →
    TokensOf (term_text sig depth t) (tokens_from 0 (term_pieces sig depth t))
term_tokens sig depth t named printable =
    tokens_of_pieces (term_text sig depth t) (term_pieces sig depth t) (term_text-pieces sig depth t)
    (subst Begins (append-nil (term_pieces sig depth t)) (term_begins sig (are_named sig named) depth t [] printable nothing_follows))

-- and so are those of a printed type.
pub tokens_printed : (sig : LfSignature) (a : LfType) → All IsGrammarName (names_of sig) → IsPrintableType sig 0 a →
    TokensOf (type_text sig 0 a) (tokens_from 0 (type_pieces sig 0 a))
tokens_printed sig a named printable =
    tokens_of_pieces (type_text sig 0 a) (type_pieces sig 0 a) (type_text-pieces sig 0 a)
    (subst Begins (append-nil (type_pieces sig 0 a)) (type_begins sig (are_named sig named) 0 a [] printable nothing_follows))
