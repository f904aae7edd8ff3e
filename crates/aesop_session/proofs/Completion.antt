-- What was written of a document is a prefix of one: what is left to write is always there.
use Rattle.std.proofs.Common.{◌≡◌, ℕ, ◌<◌, ◌+◌, List, [], ◌∷◌, ◌++◌, length, refl, sym, subst, ap, ◌∙◌, Option, append_assoc, append-nil, get_or, take, drop}
use Rattle.std.specs.Prelude.{map, All}
use Rattle.std.specs.Io.KnownBytes.{Appends}
use Rattle.std.proofs.KnownBytes.{Appends-nil, Appends-trans}
use Rattle.std.proofs.Math.ListN.{get_or-map, length-map}
use Rattle.std.proofs.lemmas.List.{map-append, take_more, take-append-drop}
use Rattle.std.proofs.lemmas.List.Concat.{flat_map-append}
use Rattle.std.proofs.lemmas.List.Elements.{All-head, All-tail}
use Rattle.run_io.specs.Moves.{AppendsPrefix}
use Rattle.lf_definitions.specs.Typing.{Formed}
use Rattle.lf_definitions.specs.Signatures.{LfSignature, kinds_in, typing_in}
use Rattle.file_elab.specs.declared.theorem.Theorem.{Theorem}
use Rattle.file_elab.specs.ProgramViews.{theorem_of}
use Rattle.file_elab.specs.Theorems.{LfTheorem, AreFormed}
use Rattle.goal_book.specs.GoalBooks.{LfBook}
use Rattle.answer_definitions.specs.Blocks.{LfBlock}
use Rattle.answer_text.specs.Texts.{block_text}
use Rattle.aesop_session.specs.declared.status.Status.{Status}
use Rattle.aesop_session.specs.declared.status.Status.TheVariants.{AllProved}
use Rattle.command_words.specs.Commands.{LfOptions}
use Rattle.aesop_session.specs.Documents.{first_line, last_line, blocks_text, status_of, AnswerTheorems, no_theorem, one_theorem, IsBlockText, WritesBlocks, WritesBlocksPrefix, WritesDocument, WritesDocumentPrefix, HasAnswers}

-- ---- prefixes

pub AppendsPrefix-nothing : (held : Option (List ℕ)) (text : List ℕ) → AppendsPrefix held held text
AppendsPrefix-nothing held text = ([], (text, refl), Appends-nil held)

pub AppendsPrefix-more : (held after : Option (List ℕ)) (text more : List ℕ) → AppendsPrefix held after text → AppendsPrefix held after (text ++ more)
AppendsPrefix-more held after text more f =
    (f.0, (f.1.0 ++ more, sym (append_assoc f.0 f.1.0 more) ∙ ap (λ (t : List ℕ). t ++ more) f.1.1), f.2)

pub AppendsPrefix-after : (held middle after : Option (List ℕ)) (done text : List ℕ) → Appends held middle done → AppendsPrefix middle after text → AppendsPrefix held after (done ++ text)
AppendsPrefix-after held middle after done text a f =
    (done ++ f.0, (f.1.0, append_assoc done f.0 f.1.0 ∙ ap (λ (t : List ℕ). done ++ t) f.1.1), Appends-trans held middle after done f.0 a f.2)

-- ---- parts of lists

-- what of a list is left fits too
All-rest_of : {X : Type 0} (P : X → Type 0) (xs ys : List X) → All P (xs ++ ys) → All P ys
All-rest_of P [] ys all = all
All-rest_of P (x ∷ xs) ys all = All-rest_of P xs ys (All-tail P x (xs ++ ys) all)

pub mapped_more : {A B : Type 0} (f : A → B) (xs : List A) (i : ℕ) (x : A) → i < length xs → x ≡ get_or xs i x → map f (take i xs) ++ f x ∷ [] ≡ map f (take (i + 1) xs)
mapped_more f xs i x within is =
    sym (map-append f (take i xs) (x ∷ [])) ∙ ap (map f) (ap (λ y. take i xs ++ y ∷ []) is ∙ sym (take_more xs i x within))

pub mapped_parts : {A B : Type 0} (f : A → B) (xs : List A) (i : ℕ) (x : A) → i < length xs → x ≡ get_or xs i x → map f xs ≡ map f (take i xs) ++ f x ∷ [] ++ map f (drop (i + 1) xs)
mapped_parts f xs i x within is =
    ap (map f) (sym (take-append-drop (i + 1) xs)) ∙ map-append f (take (i + 1) xs) (drop (i + 1) xs)
    ∙ ap (λ ys. ys ++ map f (drop (i + 1) xs)) (sym (mapped_more f xs i x within is))

module _ (b : LfBook) (options : LfOptions) where
  -- ---- blocks

  -- answers one after another are answers
  answers-append : (ts us : List LfTheorem) (xs ys : List LfBlock) → AnswerTheorems b options ts xs → AnswerTheorems b options us ys → AnswerTheorems b options (ts ++ us) (xs ++ ys)
  answers-append ts us xs ys no_theorem more = more
  answers-append ts us xs ys (one_theorem t ts' x xs' is rest) more = one_theorem t (ts' ++ us) x (xs' ++ ys) is (answers-append ts' us xs' ys rest more)

  -- well-formed theorems have answers
  answers_exist : HasAnswers b → (ts : List LfTheorem) → AreFormed b.sig ts → (blocks : List LfBlock) × AnswerTheorems b options ts blocks
  answers_exist answers [] formed = ([], no_theorem)
  answers_exist answers (t ∷ ts) formed =
      let P : LfTheorem → Type 0 = λ theorem. Formed (kinds_in b.sig) (typing_in b.sig [] []) theorem.type in
      let block = answers options t (All-head P t ts formed) in
      let rest = answers_exist answers ts (All-tail P t ts formed) in
      (block.0 ∷ rest.0, one_theorem t ts block.0 rest.0 block.1 rest.1)

  blocks_text-append : (xs ys : List LfBlock) → blocks_text b xs ++ blocks_text b ys ≡ blocks_text b (xs ++ ys)
  blocks_text-append xs ys = sym (flat_map-append (block_text b.sig b.book) xs ys)

  -- ---- one theorem

  -- the block of a theorem that was written whole
  pub WritesBlocks-one : (t : LfTheorem) (held after : Option (List ℕ)) (status : Status) (text : List ℕ) → IsBlockText b options t status text → Appends held after text → WritesBlocks b options (t ∷ []) held after status
  WritesBlocks-one t held after status text is taken = record {
    blocks = is.0 ∷ [];
    answers = one_theorem t [] is.0 [] is.1 no_theorem;
    status_is = is.2;
    taken = subst (Appends held after) (is.3 ∙ sym (append-nil (block_text b.sig b.book is.0))) taken;
  }

  -- a prefix of it
  pub WritesBlocksPrefix-one : (t : LfTheorem) (held after : Option (List ℕ)) (status : Status) (text : List ℕ) → IsBlockText b options t status text → AppendsPrefix held after text → WritesBlocksPrefix b options (t ∷ []) held after
  WritesBlocksPrefix-one t held after status text is taken = record {
    first = t ∷ [];
    rest = [];
    parts = refl;
    blocks = is.0 ∷ [];
    answers = one_theorem t [] is.0 [] is.1 no_theorem;
    taken = subst (AppendsPrefix held after) (is.3 ∙ sym (append-nil (block_text b.sig b.book is.0))) taken;
  }

  -- and nothing of it
  pub WritesBlocksPrefix-none : (ts : List LfTheorem) (held : Option (List ℕ)) → WritesBlocksPrefix b options ts held held
  WritesBlocksPrefix-none ts held = record { first = []; rest = ts; parts = refl; blocks = []; answers = no_theorem; taken = AppendsPrefix-nothing held [] }

  -- ---- theorems in order

  pub WritesBlocks-none : (held : Option (List ℕ)) → WritesBlocks b options [] held held AllProved
  WritesBlocks-none held = record { blocks = []; answers = no_theorem; status_is = refl; taken = Appends-nil held }

  pub WritesBlocks-append : (ts us : List LfTheorem) (held middle after : Option (List ℕ)) (status more both : Status) → WritesBlocks b options ts held middle status → WritesBlocks b options us middle after more →
      ((blocks others : List LfBlock) → status ≡ status_of blocks → more ≡ status_of others → both ≡ status_of (blocks ++ others)) → WritesBlocks b options (ts ++ us) held after both
  WritesBlocks-append ts us held middle after status more both w v is = record {
    blocks = w.blocks ++ v.blocks;
    answers = answers-append ts us w.blocks v.blocks w.answers v.answers;
    status_is = is w.blocks v.blocks w.status_is v.status_is;
    taken = subst (Appends held after) (blocks_text-append w.blocks v.blocks) (Appends-trans held middle after (blocks_text b w.blocks) (blocks_text b v.blocks) w.taken v.taken);
  }

  pub WritesBlocksPrefix-append : (ts us rest all : List LfTheorem) (held middle after : Option (List ℕ)) (status : Status) → all ≡ ts ++ us ++ rest → WritesBlocks b options ts held middle status →
      WritesBlocksPrefix b options us middle after → WritesBlocksPrefix b options all held after
  WritesBlocksPrefix-append ts us rest all held middle after status parts w f = record {
    first = ts ++ f.first;
    rest = f.rest ++ rest;
    parts = parts ∙ ap (λ (xs : List LfTheorem). ts ++ xs ++ rest) f.parts ∙ simp append_assoc;
    blocks = w.blocks ++ f.blocks;
    answers = answers-append ts f.first w.blocks f.blocks w.answers f.answers;
    taken = subst (AppendsPrefix held after) (blocks_text-append w.blocks f.blocks)
        (AppendsPrefix-after held middle after (blocks_text b w.blocks) (blocks_text b f.blocks) w.taken f.taken);
  }

  -- ---- whole documents

  module _ (ts : List LfTheorem) (held : Option (List ℕ)) where
    pub WritesDocument-whole : (first middle after : Option (List ℕ)) (status : Status) → Appends held first (first_line options.budget) → WritesBlocks b options ts first middle status →
        Appends middle after last_line → WritesDocument b options ts held after status
    WritesDocument-whole first middle after status a w z = (
      first_line options.budget ++ blocks_text b w.blocks ++ last_line,
      record { blocks = w.blocks; answers = w.answers; text_is = refl; status_is = w.status_is },
      Appends-trans held middle after (first_line options.budget ++ blocks_text b w.blocks) last_line
          (Appends-trans held first middle (first_line options.budget) (blocks_text b w.blocks) a w.taken) z,
    )

    pub WritesDocumentPrefix-last : (first middle after : Option (List ℕ)) (status : Status) → Appends held first (first_line options.budget) → WritesBlocks b options ts first middle status →
        AppendsPrefix middle after last_line → WritesDocumentPrefix b options ts held after
    WritesDocumentPrefix-last first middle after status a w z = (
      status,
      first_line options.budget ++ blocks_text b w.blocks ++ last_line,
      record { blocks = w.blocks; answers = w.answers; text_is = refl; status_is = w.status_is },
      AppendsPrefix-after held middle after (first_line options.budget ++ blocks_text b w.blocks) last_line
          (Appends-trans held first middle (first_line options.budget) (blocks_text b w.blocks) a w.taken) z,
    )

    -- where the blocks of some theorems are written in part, the others have blocks too
    pub WritesDocumentPrefix-blocks : HasAnswers b → AreFormed b.sig ts → (first after : Option (List ℕ)) → Appends held first (first_line options.budget) → WritesBlocksPrefix b options ts first after →
        WritesDocumentPrefix b options ts held after
    WritesDocumentPrefix-blocks answers formed first after a f =
        let rest = answers_exist answers f.rest (All-rest_of (λ (theorem : LfTheorem). Formed (kinds_in b.sig) (typing_in b.sig [] []) theorem.type) f.first f.rest (subst (AreFormed b.sig) f.parts formed)) in
        let done = AppendsPrefix-more first after (blocks_text b f.blocks) (blocks_text b rest.0) f.taken in
        let blocks = subst (AppendsPrefix first after) (blocks_text-append f.blocks rest.0) done in (
          status_of (f.blocks ++ rest.0),
          first_line options.budget ++ blocks_text b (f.blocks ++ rest.0) ++ last_line,
          record {
            blocks = f.blocks ++ rest.0;
            answers = subst (λ (theorems : List LfTheorem). AnswerTheorems b options theorems (f.blocks ++ rest.0)) (sym f.parts) (answers-append f.first f.rest f.blocks rest.0 f.answers rest.1);
            text_is = refl;
            status_is = refl;
          },
          AppendsPrefix-more held after (first_line options.budget ++ blocks_text b (f.blocks ++ rest.0)) last_line
              (AppendsPrefix-after held first after (first_line options.budget) (blocks_text b (f.blocks ++ rest.0)) a blocks),
        )

    -- where the first line is written in part, all theorems have blocks
    pub WritesDocumentPrefix-first : HasAnswers b → AreFormed b.sig ts → (after : Option (List ℕ)) → AppendsPrefix held after (first_line options.budget) → WritesDocumentPrefix b options ts held after
    WritesDocumentPrefix-first answers formed after f =
        let blocks = answers_exist answers ts formed in (
          status_of blocks.0,
          first_line options.budget ++ blocks_text b blocks.0 ++ last_line,
          record { blocks = blocks.0; answers = blocks.1; text_is = refl; status_is = refl },
          AppendsPrefix-more held after (first_line options.budget ++ blocks_text b blocks.0) last_line (AppendsPrefix-more held after (first_line options.budget) (blocks_text b blocks.0) f),
        )

-- a theorem of a well-formed list has a well-formed type
pub theorem_formed : (sig : LfSignature) (theorems : List Theorem) (i : ℕ) (x : Theorem) → AreFormed sig (map theorem_of theorems) → i < length theorems → x ≡ get_or theorems i x →
    Formed (kinds_in sig) (typing_in sig [] []) (theorem_of x).type
theorem_formed sig theorems i x formed within is =
    let at = formed i (theorem_of x) (simp length-map within) in
    subst (λ (theorem : LfTheorem). Formed (kinds_in sig) (typing_in sig [] []) theorem.type) (get_or-map theorem_of theorems i x ∙ ap theorem_of (sym is)) at
