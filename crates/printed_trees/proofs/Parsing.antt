-- The grammar reads the tokens of printed terms and types.
use Rattle.std.proofs.Common.{◌≡◌, ◌≢◌, ℕ, suc, ◌+◌, ◌-◌, List, [], ◌∷◌, ◌++◌, Bool, true, false, length, Some, refl, sym, ap, ◌∙◌, subst, append_assoc, map, ⊎_elim}
use Rattle.std.specs.Prelude.{codes, if◌then◌else◌, slice_range, All}
use Rattle.std.specs.Str.{bytes_eq}
use Rattle.std.proofs.lemmas.List.{append-nil, map-append}
use Rattle.std.proofs.lemmas.Bool.{cases_Bool}
use Rattle.std.proofs.lemmas.Slice.Eq.{bytes_eq-Decides}
use Rattle.lex_text.specs.declared.mark.Mark.TheVariants.{Word, Colon, Arrow, RParen, LBrace, RBrace}
use Rattle.file_trees.specs.declared.span.Span.{Span}
use Rattle.file_trees.specs.Trees.{Tree, leaf, abstraction, head, applied, Classifier}
use Rattle.file_trees.specs.Trees as trees
use Rattle.file_syntax.specs.declared.terminal.Terminal.{Terminal}
use Rattle.file_syntax.specs.declared.terminal.Terminal.TheVariants as terminals
use Rattle.file_syntax.specs.Terminals.{keyword_of, terminal_of, terminals_of}
use Rattle.file_syntax.specs.Productions.{IsTerm, abstracts, applies, IsArgument, name, variable, term, AreArguments, no_more, one_more, IsType, binds, ends, goes_to, IsSimple, family_of, group, a_variable, binder_of}
use Rattle.lf_definitions.specs.Syntax.{LfHead, bound, constant, metavariable, LfTerm, lam, at, Spine, no_args, arg, LfType, pi, family}
use Rattle.lf_definitions.specs.Signatures.{LfSignature, names_of, constant_names, family_names, name_at}
use Rattle.elab_terms.specs.Names.{Text, text_at}
use Rattle.elab_terms.specs.Applied.{IsApplied}
use Rattle.elab_terms.specs.Types.{IsBinder, pi_binder, arrow_binder}
use Rattle.elab_terms.proofs.Applications.{base_of-apply_all, arguments_of_application}
use Rattle.file_elab.specs.GrammarNames.{IsGrammarName}
use Rattle.binder_marks.specs.Mentions.{mentions}
use Rattle.file_print.specs.Printable.{IsPrintableHead, IsPrintable, ArePrintable, IsPrintableType}
use Rattle.file_print.specs.Texts.{variable_text, head_text, is_name, term_text, has_binders, type_text}
use Rattle.printed_tokens.specs.Pieces.{Piece, space, piece, variable_piece, head_piece, pieces_in_parentheses, tokens_from, term_pieces, args_pieces, type_pieces}
use Rattle.printed_tokens.proofs.PieceTexts.{term_text-pieces, type_text-pieces}
use Rattle.printed_tokens.proofs.Spelling.{AreNamed, are_named}
use Rattle.printed_trees.specs.PrintedTrees.{IsPrintedTerm, printed_abstraction, printed_application, ArePrintedTerms, printed_none, printed_argument, printed_name, IsPrintedType, printed_binder, printed_family}
use Rattle.printed_trees.proofs.Standing.{stands, past, tokens_from-append, Stand, Stand-prefix, Stand-rest}

-- the terminals of pieces that stand at a place
abbrev pub terminals_at : Text → ℕ → List Piece → List Terminal
terminals_at text place ps = terminals_of text (tokens_from place ps)

terminals_at-append : (text : Text) (place : ℕ) (ps qs : List Piece) → terminals_at text place (ps ++ qs) ≡ terminals_at text place ps ++ terminals_at text (past place ps) qs
terminals_at-append text place ps qs =
    ap (map (terminal_of text)) (tokens_from-append place ps qs) ∙ map-append (terminal_of text) (tokens_from place ps) (tokens_from (past place ps) qs)

-- the terminals of two parts, and others
terminals_parted : (text : Text) (place : ℕ) (ps qs : List Piece) (rest : List Terminal) →
    terminals_at text place (ps ++ qs) ++ rest ≡ terminals_at text place ps ++ (terminals_at text (past place ps) qs ++ rest)
terminals_parted text place ps qs rest =
    ap (λ l. l ++ rest) (terminals_at-append text place ps qs) ∙ append_assoc (terminals_at text place ps) (terminals_at text (past place ps) qs) rest

abbrev span_from : ℕ → List ℕ → Span
span_from place word = record { start = place; end = place + length word }

no_type : (word : List ℕ) → word ≢ codes "type" → bytes_eq word (codes "type") ≡ false
no_type word other = ⊎_elim (λ same. absurd (other ((bytes_eq-Decides word (codes "type")).0 same))) (λ differ. differ) (cases_Bool (bytes_eq word (codes "type")))

-- the terminal of a name is a word
word_terminal : (text : Text) (place : ℕ) (word : List ℕ) → slice_range text place (place + length word) ≡ word → IsGrammarName word →
    terminal_of text (record { mark = Word; start = place; end = place + length word })
    ≡ terminals.Word (keyword_of (slice_range text place (place + length word))) (span_from place word)
word_terminal text place word stands is =
    let other : bytes_eq (slice_range text place (place + length word)) (codes "type") ≡ false = ap (λ l. bytes_eq l (codes "type")) stands ∙ no_type word is.other in
    rw other

abbrev HasTerm : Text → LfSignature → ℕ → LfTerm → List Terminal → List Terminal → Type 0
HasTerm text sig depth t before rest = (tree : Tree) × IsTerm before rest tree × IsPrintedTerm text sig depth t tree

abbrev HasArgument : Text → LfSignature → ℕ → LfTerm → List Terminal → List Terminal → Type 0
HasArgument text sig depth t before rest = (tree : Tree) × IsArgument before rest tree × IsPrintedTerm text sig depth t tree

abbrev HasArguments : Text → LfSignature → ℕ → Spine → List Terminal → List Terminal → Type 0
HasArguments text sig depth ts before rest = (arguments : List Tree) × AreArguments before rest arguments × ArePrintedTerms text sig depth ts arguments

abbrev HasType : Text → LfSignature → ℕ → LfType → List Terminal → List Terminal → Type 0
HasType text sig depth a before rest = (tree : Classifier) × IsType before rest tree × IsPrintedType text sig depth a tree

abbrev HasSimple : Text → LfSignature → ℕ → LfType → List Terminal → List Terminal → Type 0
HasSimple text sig depth a before rest = (tree : Classifier) × IsSimple before rest tree × IsPrintedType text sig depth a tree

applied_is : (span : Span) (arguments : List Tree) → IsApplied (applied (leaf span) arguments) [] (leaf span) arguments
applied_is span [] = (refl, refl)
applied_is span (argument ∷ arguments) =
    (base_of-apply_all (head (leaf span)) (argument ∷ arguments), arguments_of_application (leaf span) (argument ∷ arguments))

module _ (text : Text) (sig : LfSignature) (named : AreNamed sig) where
  -- an argument that is a name, and the head of an application
  head_argument : (depth place : ℕ) (h : LfHead) (rest : List Terminal) → IsPrintableHead sig depth h → Stand text place (head_piece sig depth h ∷ []) →
      (span : Span) × IsArgument (terminals_at text place (head_piece sig depth h ∷ []) ++ rest) rest (leaf span) × (text_at text span ≡ head_text sig depth h)
  head_argument depth place (bound n) rest printable stand =
      let word = variable_text (depth - suc n) in
      (span_from place word, variable (span_from place word) rest, stand.0)
  head_argument depth place (constant c) rest printable stand =
      let word = name_at (constant_names sig) c in (
        span_from place word,
        subst (λ terminal. IsArgument (terminal ∷ rest) rest (leaf (span_from place word))) (sym (word_terminal text place word stand.0 (named.constants c printable)))
            (name (keyword_of (slice_range text place (place + length word))) (span_from place word) rest),
        stand.0,
      )
  head_argument depth place (metavariable g) rest printable stand = absurd printable

  -- how a term is read wherever it stands
  abbrev ParsesTerm : ℕ → LfTerm → Type 0
  ParsesTerm depth t = (place : ℕ) (rest : List Terminal) → Stand text place (term_pieces sig depth t) → HasTerm text sig depth t (terminals_at text place (term_pieces sig depth t) ++ rest) rest

  enclosed : (depth place : ℕ) (t : LfTerm) (rest : List Terminal) → ParsesTerm depth t → Stand text place (pieces_in_parentheses (term_pieces sig depth t)) →
      HasArgument text sig depth t (terminals_at text place (pieces_in_parentheses (term_pieces sig depth t)) ++ rest) rest
  enclosed depth place t rest parses stand =
      let ps = term_pieces sig depth t in
      let opening = span_from place (codes "(") in
      let closing = span_from (past (place + 1) ps) (codes ")") in
      let inside = parses (place + 1) (terminals.RParen closing ∷ rest) (Stand-prefix text (place + 1) ps (piece RParen (codes ")") ∷ []) stand.1) in (
        inside.0,
        subst (λ l. IsArgument (terminals.LParen opening ∷ l) rest inside.0) (sym (terminals_parted text (place + 1) ps (piece RParen (codes ")") ∷ []) rest))
            (term opening closing (terminals_at text (place + 1) ps ++ terminals.RParen closing ∷ rest) rest inside.0 inside.1),
        inside.2,
      )

  argument_parsed : (depth place : ℕ) (t : LfTerm) (rest : List Terminal) → IsPrintable sig depth t → ParsesTerm depth t →
      Stand text place (if is_name t then term_pieces sig depth t else pieces_in_parentheses (term_pieces sig depth t)) →
      HasArgument text sig depth t (terminals_at text place (if is_name t then term_pieces sig depth t else pieces_in_parentheses (term_pieces sig depth t)) ++ rest) rest
  argument_parsed depth place (at h no_args) rest printable parses stand =
      let first = head_argument depth place h rest printable.0 stand in
      (leaf first.0, first.1, printed_application depth h no_args (leaf first.0) first.0 [] (refl, refl) first.2 (printed_none depth))
  argument_parsed depth place (lam b) rest printable parses stand = enclosed depth place (lam b) rest parses stand
  argument_parsed depth place (at h (arg t ts)) rest printable parses stand = enclosed depth place (at h (arg t ts)) rest parses stand

  mutual
    term_parsed : (depth place : ℕ) (t : LfTerm) (rest : List Terminal) → IsPrintable sig depth t → Stand text place (term_pieces sig depth t) →
        HasTerm text sig depth t (terminals_at text place (term_pieces sig depth t) ++ rest) rest
    term_parsed depth place (lam b) rest printable stand =
        let word = variable_text depth in
        let opening = span_from place (codes "[") in
        let bound_span = span_from (place + 1) word in
        let closing = span_from (place + 1 + length word) (codes "]") in
        let binder = binder_of opening bound_span in
        let body = term_parsed (suc depth) (place + 1 + length word + 1 + 1) b rest printable stand.1.1.1 in (
          abstraction binder body.0,
          abstracts opening closing bound_span (terminals.Var bound_span) (terminals_at text (place + 1 + length word + 1 + 1) (term_pieces sig (suc depth) b) ++ rest) rest body.0
              (a_variable bound_span) body.1,
          printed_abstraction depth b (abstraction binder body.0) binder body.0 (refl, refl) (ap Some stand.1.0) body.2,
        )
    term_parsed depth place (at h args) rest printable stand =
        let here = Stand-prefix text place (head_piece sig depth h ∷ []) (args_pieces sig depth args) stand in
        let after = past place (head_piece sig depth h ∷ []) in
        let left = terminals_at text after (args_pieces sig depth args) ++ rest in
        let first = head_argument depth place h left printable.0 here in
        let others = args_parsed depth after args rest printable.1 (Stand-rest text place (head_piece sig depth h ∷ []) (args_pieces sig depth args) stand) in
        let tree = applied (leaf first.0) others.0 in (
          tree,
          subst (λ l. IsTerm l rest tree) (sym (terminals_parted text place (head_piece sig depth h ∷ []) (args_pieces sig depth args) rest))
              (applies (terminals_at text place (head_piece sig depth h ∷ []) ++ left) left rest (leaf first.0) others.0 first.1 others.1),
          printed_application depth h args tree first.0 others.0 (applied_is first.0 others.0) first.2 others.2,
        )

    args_parsed : (depth place : ℕ) (ts : Spine) (rest : List Terminal) → ArePrintable sig depth ts → Stand text place (args_pieces sig depth ts) →
        HasArguments text sig depth ts (terminals_at text place (args_pieces sig depth ts) ++ rest) rest
    args_parsed depth place no_args rest printable stand = ([], no_more rest, printed_none depth)
    args_parsed depth place (arg t ts) rest printable stand =
        let here = if is_name t then term_pieces sig depth t else pieces_in_parentheses (term_pieces sig depth t) in
        let more = args_pieces sig depth ts in
        let after = past (place + 1) here in
        let left = terminals_at text after more ++ rest in
        let first = argument_parsed depth (place + 1) t left printable.0 (λ from after prefix. term_parsed depth from t after printable.0 prefix) (Stand-prefix text (place + 1) here more stand) in
        let others = args_parsed depth after ts rest printable.1 (Stand-rest text (place + 1) here more stand) in (
          first.0 ∷ others.0,
          subst (λ l. AreArguments l rest (first.0 ∷ others.0)) (sym (terminals_parted text (place + 1) here more rest))
              (one_more (terminals_at text (place + 1) here ++ left) left rest first.0 others.0 first.1 others.1),
          printed_argument depth t ts first.0 others.0 first.2 others.2,
        )

  atom_parsed : (depth place f : ℕ) (args : Spine) (rest : List Terminal) → IsPrintableType sig depth (family f args) → Stand text place (type_pieces sig depth (family f args)) →
      HasSimple text sig depth (family f args) (terminals_at text place (type_pieces sig depth (family f args)) ++ rest) rest
  atom_parsed depth place f args rest printable stand =
      let word = name_at (family_names sig) f in
      let span = span_from place word in
      let others = args_parsed depth (place + length word) args rest printable.1 stand.1 in
      let left = terminals_at text (place + length word) (args_pieces sig depth args) ++ rest in (
        trees.family span others.0,
        subst (λ terminal. IsSimple (terminal ∷ left) rest (trees.family span others.0)) (sym (word_terminal text place word stand.0 (named.families f printable.0)))
            (family_of (keyword_of (slice_range text place (place + length word))) span left rest others.0 others.1),
        printed_family depth f args span others.0 stand.0 others.2,
      )

  -- how a type is read wherever it stands
  abbrev ParsesType : ℕ → LfType → Type 0
  ParsesType depth a = (place : ℕ) (rest : List Terminal) → Stand text place (type_pieces sig depth a) → HasType text sig depth a (terminals_at text place (type_pieces sig depth a) ++ rest) rest

  left_parsed : (depth place : ℕ) (a : LfType) (rest : List Terminal) → IsPrintableType sig depth a → ParsesType depth a →
      Stand text place (if has_binders a then pieces_in_parentheses (type_pieces sig depth a) else type_pieces sig depth a) →
      HasSimple text sig depth a (terminals_at text place (if has_binders a then pieces_in_parentheses (type_pieces sig depth a) else type_pieces sig depth a) ++ rest) rest
  left_parsed depth place (family f args) rest printable parses stand = atom_parsed depth place f args rest printable stand
  left_parsed depth place (pi a b) rest printable parses stand =
      let ps = type_pieces sig depth (pi a b) in
      let opening = span_from place (codes "(") in
      let closing = span_from (past (place + 1) ps) (codes ")") in
      let inside = parses (place + 1) (terminals.RParen closing ∷ rest) (Stand-prefix text (place + 1) ps (piece RParen (codes ")") ∷ []) stand.1) in (
        inside.0,
        subst (λ l. IsSimple (terminals.LParen opening ∷ l) rest inside.0) (sym (terminals_parted text (place + 1) ps (piece RParen (codes ")") ∷ []) rest))
            (group opening closing (terminals_at text (place + 1) ps ++ terminals.RParen closing ∷ rest) rest inside.0 inside.1),
        inside.2,
      )

  -- the pieces of a binder
  abbrev binder_pieces : Bool → ℕ → LfType → List Piece
  binder_pieces m depth a =
      if m then piece LBrace (codes "{") ∷ variable_piece depth ∷ piece Colon (codes ":") ∷ type_pieces sig depth a ++ piece RBrace (codes "}") ∷ space ∷ []
      else (if has_binders a then pieces_in_parentheses (type_pieces sig depth a) else type_pieces sig depth a) ++ space ∷ piece Arrow (codes "->") ∷ space ∷ []

  -- A binder before a type that is read.
  record HasBinder (m : Bool) (depth : ℕ) (a : LfType) (before rest : List Terminal) (body : Classifier) : Type 0 where
    pub whole : Classifier
    pub domain : Classifier
    pub place : ℕ
    pub parsed : IsType before rest whole
    pub is_binder : IsBinder text whole place domain body (printed_name m depth)
    pub printed : IsPrintedType text sig depth a domain

  binder_parsed : (m : Bool) (depth place : ℕ) (a : LfType) (after rest : List Terminal) (body : Classifier) → IsPrintableType sig depth a → ParsesType depth a →
      Stand text place (binder_pieces m depth a) → IsType after rest body → HasBinder m depth a (terminals_at text place (binder_pieces m depth a) ++ after) rest body
  binder_parsed true depth place a after rest body printable parses stand parsed =
      let word = variable_text depth in
      let ps = type_pieces sig depth a in
      let opening = span_from place (codes "{") in
      let bound_span = span_from (place + 1) word in
      let colon = span_from (place + 1 + length word) (codes ":") in
      let start = place + 1 + length word + 1 in
      let closing = span_from (past start ps) (codes "}") in
      let domain = parses start (terminals.RBrace closing ∷ after) (Stand-prefix text start ps (piece RBrace (codes "}") ∷ space ∷ []) stand.1.1.1) in
      let binder = binder_of opening bound_span in
      let whole = trees.pi binder domain.0 body in
      record {
        whole = whole;
        domain = domain.0;
        place = place;
        parsed = subst (λ l. IsType (terminals.LBrace opening ∷ terminals.Var bound_span ∷ terminals.Colon colon ∷ l) rest whole)
            (sym (terminals_parted text start ps (piece RBrace (codes "}") ∷ space ∷ []) after))
            (binds opening colon closing bound_span (terminals.Var bound_span) (terminals_at text start ps ++ terminals.RBrace closing ∷ after) after rest domain.0 body
            (a_variable bound_span) domain.1 parsed);
        is_binder = subst (IsBinder text whole place domain.0 body) (ap Some stand.1.0) (pi_binder binder domain.0 body);
        printed = domain.2;
      }
  binder_parsed false depth place a after rest body printable parses stand parsed =
      let ps = if has_binders a then pieces_in_parentheses (type_pieces sig depth a) else type_pieces sig depth a in
      let arrow_span = span_from (past place ps + 1) (codes "->") in
      let left = left_parsed depth place a (terminals.Arrow arrow_span ∷ after) printable parses
      (Stand-prefix text place ps (space ∷ piece Arrow (codes "->") ∷ space ∷ []) stand) in
      record {
        whole = trees.arrow left.0 body;
        domain = left.0;
        place = _;
        parsed = subst (λ l. IsType l rest (trees.arrow left.0 body)) (sym (terminals_parted text place ps (space ∷ piece Arrow (codes "->") ∷ space ∷ []) after))
            (goes_to (terminals_at text place ps ++ terminals.Arrow arrow_span ∷ after) after rest arrow_span left.0 body left.1 parsed);
        is_binder = arrow_binder left.0 body;
        printed = left.2;
      }

  type_parsed : (depth : ℕ) (a : LfType) → IsPrintableType sig depth a → ParsesType depth a
  type_parsed depth (family f args) printable place rest stand =
      let simple = atom_parsed depth place f args rest printable stand in
      (simple.0, ends (terminals_at text place (type_pieces sig depth (family f args)) ++ rest) rest simple.0 simple.1, simple.2)
  type_parsed depth (pi a b) printable place rest stand =
      let prefix = binder_pieces (mentions 0 b) depth a in
      let more = type_pieces sig (suc depth) b in
      let body = type_parsed (suc depth) b printable.1 (past place prefix) rest (Stand-rest text place prefix more stand) in
      let left = terminals_at text (past place prefix) more ++ rest in
      let found = binder_parsed (mentions 0 b) depth place a left rest body.0 printable.0 (type_parsed depth a printable.0) (Stand-prefix text place prefix more stand) body.1 in (
        found.whole,
        subst (λ l. IsType l rest found.whole) (sym (terminals_parted text place prefix more rest)) found.parsed,
        printed_binder depth found.place a b found.whole found.domain body.0 found.is_binder found.printed body.2,
      )

  pub whole_term_parsed : (depth : ℕ) (t : LfTerm) → IsPrintable sig depth t → Stand text 0 (term_pieces sig depth t) → HasTerm text sig depth t (terminals_at text 0 (term_pieces sig depth t)) []
  whole_term_parsed depth t printable stand =
      let whole = term_parsed depth 0 t [] printable stand in
      (whole.0, subst (λ l. IsTerm l [] whole.0) (append-nil (terminals_at text 0 (term_pieces sig depth t))) whole.1, whole.2)

  pub whole_parsed : (a : LfType) → IsPrintableType sig 0 a → Stand text 0 (type_pieces sig 0 a) → HasType text sig 0 a (terminals_at text 0 (type_pieces sig 0 a)) []
  whole_parsed a printable stand =
      let whole = type_parsed 0 a printable 0 [] stand in
      (whole.0, subst (λ l. IsType l [] whole.0) (append-nil (terminals_at text 0 (type_pieces sig 0 a))) whole.1, whole.2)

-- The grammar reads a printed term as a tree of it,
pub term_printed : (sig : LfSignature) (depth : ℕ) (t : LfTerm) → All IsGrammarName (names_of sig) → IsPrintable sig depth t →
    (tree : Tree) × IsTerm (terminals_of (term_text sig depth t) (tokens_from 0 (term_pieces sig depth t))) [] tree × IsPrintedTerm (term_text sig depth t) sig depth t tree
term_printed sig depth t named printable =
    whole_term_parsed (term_text sig depth t) sig (are_named sig named) depth t printable
    (stands (term_text sig depth t) (term_pieces sig depth t) (sym (term_text-pieces sig depth t)))

-- and a printed type.
pub tree_printed : (sig : LfSignature) (a : LfType) → All IsGrammarName (names_of sig) → IsPrintableType sig 0 a →
    (tree : Classifier) × IsType (terminals_of (type_text sig 0 a) (tokens_from 0 (type_pieces sig 0 a))) [] tree × IsPrintedType (type_text sig 0 a) sig 0 a tree
tree_printed sig a named printable =
    whole_parsed (type_text sig 0 a) sig (are_named sig named) a printable (stands (type_text sig 0 a) (type_pieces sig 0 a) (sym (type_text-pieces sig 0 a)))
