-- Steps of the walk that marks the variables that are mentioned.
use Rattle.std.proofs.Common.{◌≡◌, ℕ, zero, suc, ◌+◌, ◌<◌, ◌≤◌, List, [], ◌∷◌, ◌++◌, Bool, false, length, get_or, drop, All, refl, sym, ap, ◌∙◌, subst, arith, length-append, add-one, append_assoc, append-nil, zero-add}
use Rattle.std.proofs.lemmas.List.{drop_all}
use Rattle.std.proofs.lemmas.List.Elements.{All-push, All-weaker}
use Rattle.lf_definitions.specs.Syntax.{LfHead, LfTerm, lam, at, Spine, arg, LfType, pi, family, pis}
use Rattle.lf_terms.specs.declared.term.Term.{Term}
use Rattle.lf_terms.specs.declared.ty.Ty.{Ty}
use Rattle.lf_terms.specs.declared.head.Head.{Head}
use Rattle.lf_terms.specs.declared.head.Head.TheVariants.{Bound, Const, Meta}
use Rattle.lf_terms.specs.Terms.{head_of, term_of, spine_of}
use Rattle.lf_terms.specs.Types.{type_of, types_of}
use Rattle.lf_terms.proofs.TypeLists.{types_of-drop}
use Rattle.binder_marks.specs.Marks.{with_mark, with_marks, marks_of, binder_places, ArePlaces}
use Rattle.binder_marks.specs.Mentions.{is_variable, mentions_in_term, mentions_in_spine, mentions}
use Rattle.binder_marks.proofs.PlacedMarks.{length-with_marks, with_marks_twice, with_marks_same, with_marks_none, with_marks-append, with_marks_newest, with_mark_at}

-- Places.

pub same_places : (ps : List ℕ) (ms new : List Bool) → length new ≡ length ms → ArePlaces ps ms → ArePlaces ps new
same_places ps ms new long places = let P : ℕ → Type 0 = λ n. All (λ place. place < n) ps in subst P (sym long) places

more_marks : (ps : List ℕ) (ms new : List Bool) → length ms ≤ length new → ArePlaces ps ms → ArePlaces ps new
more_marks ps ms new long places = All-weaker (λ place. place < length ms) (λ place. place < length new) (λ place within. omega arith) ps places

pub pushed_marks : (ps : List ℕ) (ms new : List Bool) → new ≡ ms ++ false ∷ [] → ArePlaces ps ms → ArePlaces ps new
pushed_marks ps ms new is places = more_marks ps ms new (omega (arith, ap length is, length-append ms (false ∷ []))) places

-- Terms.

pub other_head : (ps : List ℕ) (local : ℕ) (ms : List Bool) (h : Head) → ((number : ℕ) → h ≡ Bound number → ⊥) → ms ≡ with_marks ps (λ n. is_variable (local + n) (head_of h)) ms
other_head ps local ms (Bound number) other = absurd (other number refl)
other_head ps local ms (Const c) other = sym (with_marks_none ps (λ n. false) ms (λ n below. refl))
other_head ps local ms (Meta g) other = sym (with_marks_none ps (λ n. false) ms (λ n below. refl))

pub lam_marked : (ps : List ℕ) (local inside : ℕ) (ms new : List Bool) (t b : LfTerm) → t ≡ lam b → inside ≡ local + 1 →
    new ≡ with_marks ps (λ n. mentions_in_term (inside + n) b) ms → new ≡ with_marks ps (λ n. mentions_in_term (local + n) t) ms
lam_marked ps local inside ms new t b is deep e =
    let at_depth : (n : ℕ) → inside + n ≡ suc (local + n) = λ n. omega arith in
    e ∙ with_marks_same ps (λ n. mentions_in_term (inside + n) b) (λ n. mentions_in_term (local + n) t) ms
    (λ n. ap (λ k. mentions_in_term k b) (at_depth n) ∙ ap (λ u. mentions_in_term (local + n) u) (sym is))

pub at_marked : (ps : List ℕ) (local : ℕ) (ms between new : List Bool) (t : LfTerm) (h : LfHead) (ts : Spine) → t ≡ at h ts →
    between ≡ with_marks ps (λ n. is_variable (local + n) h) ms → new ≡ with_marks ps (λ n. mentions_in_spine (local + n) ts) between →
    new ≡ with_marks ps (λ n. mentions_in_term (local + n) t) ms
at_marked ps local ms between new t h ts is first second =
    second ∙ ap (λ l. with_marks ps (λ n. mentions_in_spine (local + n) ts) l) first
    ∙ with_marks_twice ps (λ n. is_variable (local + n) h) (λ n. mentions_in_spine (local + n) ts) ms
    ∙ ap (λ u. with_marks ps (λ n. mentions_in_term (local + n) u) ms) (sym is)

-- the terms from a place on begin with the one read there
pub spine_of-drop : (ts : List Term) (i : ℕ) (t : Term) → i < length ts → t ≡ get_or ts i t → spine_of (drop i ts) ≡ arg (term_of t) (spine_of (drop (i + 1) ts))
spine_of-drop ts i t within is = from_place ts i t within is ∙ ap (λ n. arg (term_of t) (spine_of (drop n ts))) (sym (add-one i))
  where
    from_place : (ts : List Term) (i : ℕ) (t : Term) → i < length ts → t ≡ get_or ts i t → spine_of (drop i ts) ≡ arg (term_of t) (spine_of (drop (suc i) ts))
    from_place [] i t within is = absurd (omega arith)
    from_place (u ∷ ts) zero t within is = ap (λ x. arg (term_of x) (spine_of ts)) (sym is)
    from_place (u ∷ ts) (suc i) t within is = from_place ts i t (omega arith) is

pub spine_step : (ps : List ℕ) (local : ℕ) (ms new whole : List Bool) (items : List Term) (i : ℕ) (t : Term) → i < length items → t ≡ get_or items i t →
    new ≡ with_marks ps (λ n. mentions_in_term (local + n) (term_of t)) ms →
    with_marks ps (λ n. mentions_in_spine (local + n) (spine_of (drop i items))) ms ≡ whole →
    with_marks ps (λ n. mentions_in_spine (local + n) (spine_of (drop (i + 1) items))) new ≡ whole
spine_step ps local ms new whole items i t within is here rest =
    let later = spine_of (drop (i + 1) items) in
    ap (λ l. with_marks ps (λ n. mentions_in_spine (local + n) later) l) here
    ∙ with_marks_twice ps (λ n. mentions_in_term (local + n) (term_of t)) (λ n. mentions_in_spine (local + n) later) ms
    ∙ ap (λ s. with_marks ps (λ n. mentions_in_spine (local + n) s) ms) (sym (spine_of-drop items i t within is)) ∙ rest

pub spine_end : (ps : List ℕ) (local : ℕ) (new whole : List Bool) (items : List Term) (i : ℕ) → length items ≤ i →
    with_marks ps (λ n. mentions_in_spine (local + n) (spine_of (drop i items))) new ≡ whole → new ≡ whole
spine_end ps local new whole items i past rest =
    sym (with_marks_none ps (λ n. false) new (λ n below. refl))
    ∙ ap (λ l. with_marks ps (λ n. mentions_in_spine (local + n) (spine_of l)) new) (sym (drop_all i items past)) ∙ rest

-- Types.

-- one binder, whose mark is the next, over the rest
binder_marked : (ps : List ℕ) (ms new : List Bool) (a b : LfType) → ArePlaces ps ms → new ≡ with_marks ps (λ n. mentions n a) (ms ++ false ∷ []) ++ marks_of a →
    with_marks (ps ++ length ms ∷ []) (λ n. mentions n b) new ≡ with_marks ps (λ n. mentions n (pi a b)) ms ++ mentions 0 b ∷ marks_of a
binder_marked ps ms new a b places here =
    let between = with_marks ps (λ n. mentions n a) ms in
    let below : length between ≡ length ms = length-with_marks ps (λ n. mentions n a) ms in
    let F : List Bool → List Bool = λ l. with_mark (length ms) (mentions 0 b) (with_marks ps (λ n. mentions (suc n) b) l) in
    let made : new ≡ between ++ false ∷ marks_of a =
    here ∙ ap (λ l. l ++ marks_of a) (with_marks-append ps (λ n. mentions n a) ms (false ∷ []) places) ∙ append_assoc between (false ∷ []) (marks_of a) in
    with_marks_newest ps (length ms) (λ n. mentions n b) new ∙ ap F made
    ∙ ap (λ l. with_mark (length ms) (mentions 0 b) l) (with_marks-append ps (λ n. mentions (suc n) b) between (false ∷ marks_of a) (same_places ps ms between below places))
    ∙ with_mark_at (with_marks ps (λ n. mentions (suc n) b) between) (marks_of a) (length ms) (mentions 0 b) (length-with_marks ps (λ n. mentions (suc n) b) between ∙ below)
    ∙ ap (λ l. l ++ mentions 0 b ∷ marks_of a) (with_marks_twice ps (λ n. mentions n a) (λ n. mentions (suc n) b) ms)

pub record MarkedSoFar (items : List Ty) (end : LfType) (i : ℕ) (old_places : List ℕ) (old_marks : List Bool) (ps : List ℕ) (ms : List Bool) : Type 0 where
  pub are_places : ArePlaces ps ms
  pub placed : ps ++ binder_places (length ms) (pis (types_of (drop i items)) end) ≡ old_places ++ binder_places (length old_marks) (pis (types_of items) end)
  pub rest : with_marks ps (λ n. mentions n (pis (types_of (drop i items)) end)) ms ++ marks_of (pis (types_of (drop i items)) end)
      ≡ with_marks old_places (λ n. mentions n (pis (types_of items) end)) old_marks ++ marks_of (pis (types_of items) end)

pub none_so_far : (items : List Ty) (end : LfType) (ps : List ℕ) (ms : List Bool) → ArePlaces ps ms → MarkedSoFar items end 0 ps ms ps ms
none_so_far items end ps ms places = record { are_places = places; placed = refl; rest = refl }

pub binder_step : (items : List Ty) (end : LfType) (i : ℕ) (old_places : List ℕ) (old_marks : List Bool) (ps ps' : List ℕ) (ms pushed new : List Bool) (t : Ty) (place : ℕ) →
    i < length items → t ≡ get_or items i t → MarkedSoFar items end i old_places old_marks ps ms → place ≡ length ms → pushed ≡ ms ++ false ∷ [] →
    new ≡ with_marks ps (λ n. mentions n (type_of t)) pushed ++ marks_of (type_of t) → ps' ≡ ps ++ place ∷ [] → MarkedSoFar items end (i + 1) old_places old_marks ps' new
binder_step items end i old_places old_marks ps ps' ms pushed new t place within is before place_is pushed_is here grown =
    let a = type_of t in
    let b = pis (types_of (drop (i + 1) items)) end in
    let made : new ≡ with_marks ps (λ n. mentions n a) (ms ++ false ∷ []) ++ marks_of a = here ∙ ap (λ l. with_marks ps (λ n. mentions n a) l ++ marks_of a) pushed_is in
    let places : ps' ≡ ps ++ length ms ∷ [] = grown ∙ ap (λ p. ps ++ p ∷ []) place_is in
    let longer : length new ≡ suc (length ms + length (marks_of a)) =
    omega (arith, ap length made, length-append (with_marks ps (λ n. mentions n a) (ms ++ false ∷ [])) (marks_of a), length-with_marks ps (λ n. mentions n a) (ms ++ false ∷ []), length-append ms (false ∷ [])) in
    let split : pis (types_of (drop i items)) end ≡ pi a b =
    ap (λ l. pis l end) (types_of-drop items i t within is) ∙ ap (λ k. pi a (pis (types_of (drop k items)) end)) (sym (add-one i)) in
    let P : List ℕ → Type 0 = λ qs. MarkedSoFar items end (i + 1) old_places old_marks qs new in
    subst P (sym places) (record {
      are_places = All-push (λ place. place < length new) ps (length ms) (more_marks ps ms new (omega arith) before.are_places) (omega arith);
      placed = append_assoc ps (length ms ∷ []) (binder_places (length new) b) ∙ ap (λ p. ps ++ length ms ∷ binder_places p b) longer
          ∙ ap (λ c. ps ++ binder_places (length ms) c) (sym split) ∙ before.placed;
      rest = ap (λ l. l ++ marks_of b) (binder_marked ps ms new a b before.are_places made)
          ∙ append_assoc (with_marks ps (λ n. mentions n (pi a b)) ms) (mentions 0 b ∷ marks_of a) (marks_of b)
          ∙ ap (λ c. with_marks ps (λ n. mentions n c) ms ++ marks_of c) (sym split) ∙ before.rest;
    })

module _ (items : List Ty) (bs : List LfType) (f : ℕ) (args : Spine) (i : ℕ) (old_places : List ℕ) (old_marks : List Bool) (ps : List ℕ) (ms : List Bool)
    (past : length items ≤ i) (are : types_of items ≡ bs) (before : MarkedSoFar items (family f args) i old_places old_marks ps ms) where
  end : pis (types_of (drop i items)) (family f args) ≡ family f args
  end = ap (λ l. pis (types_of l) (family f args)) (drop_all i items past)

  pub binders_placed : ps ≡ old_places ++ binder_places (length old_marks) (pis bs (family f args))
  binders_placed =
      sym (append-nil ps) ∙ ap (λ c. ps ++ binder_places (length ms) c) (sym end) ∙ before.placed
      ∙ ap (λ l. old_places ++ binder_places (length old_marks) (pis l (family f args))) are

  pub binders_marked : (new : List Bool) → new ≡ with_marks ps (λ n. mentions_in_spine (0 + n) args) ms →
      new ≡ with_marks old_places (λ n. mentions n (pis bs (family f args))) old_marks ++ marks_of (pis bs (family f args))
  binders_marked new here =
      here ∙ with_marks_same ps (λ n. mentions_in_spine (0 + n) args) (λ n. mentions_in_spine n args) ms (λ n. ap (λ k. mentions_in_spine k args) (zero-add n))
      ∙ sym (append-nil (with_marks ps (λ n. mentions_in_spine n args) ms))
      ∙ ap (λ c. with_marks ps (λ n. mentions n c) ms ++ marks_of c) (sym end) ∙ before.rest
      ∙ ap (λ l. with_marks old_places (λ n. mentions n (pis l (family f args))) old_marks ++ marks_of (pis l (family f args))) are
