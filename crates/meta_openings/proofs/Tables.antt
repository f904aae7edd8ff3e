-- Tables, written entry by entry.
use Rattle.std.proofs.Common.{◌≡◌, ℕ, suc, ◌+◌, ◌-◌, ◌<◌, ◌≤◌, ◌⊎◌, inl, inr, Bool, true, false, ◌||◌, if◌then◌else◌, nat_eq, Option, Some, None, List, [], ◌∷◌, ◌++◌, length, get_or, take, set, replicate, refl, sym, ap, ap₂, ◌∙◌, subst, arith, take_all, add-one, length-append}
use Rattle.std.proofs.lemmas.Bool.{eq-eqb, ne_eqb, cases_eq}
use Rattle.std.proofs.lemmas.List.{length-set, get_or-set_same, get_or-set_other, length-replicate, get_or-replicate, get_or_default, get_or_append_left, get_or-append_right}
use Rattle.std.proofs.lemmas.List.Folds.{list_any_more}
use Rattle.std.specs.Prelude.{slice_index, slice_index_or}
use Rattle.std.specs.Option.{option_or}
use Rattle.lf_terms.proofs.ShapeLists.{take_read}
use Rattle.opening_laws.specs.Openings.{is_kept, fixed_to}
use Rattle.meta_openings.specs.Counts.{kept_before}
use Rattle.meta_openings.specs.Tables.{AreMarks, AreCounts, AreFixed}

pub marks_begin : (places : List ℕ) (count : ℕ) → AreMarks (take 0 places) count (replicate count false)
marks_begin places count = record {
  as_many = length-replicate count false;
  marked = λ place less. get_or-replicate count place false false less;
}

or_true : (b : Bool) → (b || true) ≡ true
or_true true = refl
or_true false = refl

or_false : (b : Bool) → (b || false) ≡ b
or_false true = refl
or_false false = refl

pub marks_more : (places : List ℕ) (count i x : ℕ) (old new : List Bool) → i < length places → x ≡ get_or places i 0 → x < count → new ≡ set old x true →
    AreMarks (take i places) count old → AreMarks (take (i + 1) places) count new
marks_more places count i x old new within is less written upto = record {
  as_many = ap length written ∙ length-set old x true ∙ upto.as_many;
  marked = λ place below. either place below (cases_eq place x);
}
  where
    asked : (place : ℕ) → is_kept (take (i + 1) places) place ≡ (is_kept (take i places) place || nat_eq place x)
    asked place = list_any_more (nat_eq place) places i 0 within ∙ ap (λ y. is_kept (take i places) place || nat_eq place y) (sym is)

    either : (place : ℕ) → place < count → (place ≡ x) ⊎ (place ≡ x → ⊥) → slice_index_or new place false ≡ is_kept (take (i + 1) places) place
    either place below (inl same) =
        let room : x < length old = omega (arith, less, upto.as_many) in
        ap (λ l. get_or l place false) written ∙ ap (λ k. get_or (set old x true) k false) same ∙ get_or-set_same old x true false room
        ∙ sym (asked place ∙ ap (λ b. is_kept (take i places) place || b) (eq-eqb place x same) ∙ or_true (is_kept (take i places) place))
    either place below (inr apart) =
        ap (λ l. get_or l place false) written ∙ get_or-set_other old x place true false apart ∙ upto.marked place below
        ∙ sym (asked place ∙ ap (λ b. is_kept (take i places) place || b) (ne_eqb place x apart) ∙ or_false (is_kept (take i places) place))

pub marks_end : (places kept : List ℕ) (count i : ℕ) (marks : List Bool) → length places ≤ i → places ≡ kept → AreMarks (take i places) count marks → AreMarks kept count marks
marks_end places kept count i marks all are upto = subst (λ ps. AreMarks ps count marks) (take_all i places all ∙ are) upto

abbrev pub place_of : ℕ × ℕ → ℕ → Option ℕ
place_of pair i = if nat_eq pair.0 i then Some pair.1 else None

fixed_to-more : (pairs : List (ℕ × ℕ)) (pair : ℕ × ℕ) (i : ℕ) → fixed_to (pairs ++ pair ∷ []) i ≡ option_or (fixed_to pairs i) (place_of pair i)
fixed_to-more [] pair i = refl
fixed_to-more (p ∷ pairs) pair i = step (nat_eq p.0 i) (fixed_to-more pairs pair i)
  where
    step : (b : Bool) → fixed_to (pairs ++ pair ∷ []) i ≡ option_or (fixed_to pairs i) (place_of pair i) →
        (if b then Some p.1 else fixed_to (pairs ++ pair ∷ []) i) ≡ option_or (if b then Some p.1 else fixed_to pairs i) (place_of pair i)
    step true later = refl
    step false later = later

no_place : (o : Option ℕ) → option_or o None ≡ o
no_place None = refl
no_place (Some place) = refl

pub fixed_begin : (pairs : List (ℕ × ℕ)) (count : ℕ) → AreFixed (take 0 pairs) count (replicate count None)
fixed_begin pairs count = record {
  each = length-replicate count None;
  fixed_so = λ i less. get_or-replicate count i None None less;
}

pub fixed_more : (pairs : List (ℕ × ℕ)) (count j : ℕ) (pair : ℕ × ℕ) (old new : List (Option ℕ)) → j < length pairs → pair ≡ get_or pairs j (0, 0) → pair.0 < count →
    new ≡ set old pair.0 (option_or (get_or old pair.0 None) (Some pair.1)) → AreFixed (take j pairs) count old → AreFixed (take (j + 1) pairs) count new
fixed_more pairs count j pair old new within is less written upto = record {
  each = ap length written ∙ length-set old pair.0 (option_or (get_or old pair.0 None) (Some pair.1)) ∙ upto.each;
  fixed_so = λ i below. either i below (cases_eq i pair.0);
}
  where
    asked : (i : ℕ) → fixed_to (take (j + 1) pairs) i ≡ option_or (fixed_to (take j pairs) i) (place_of pair i)
    asked i = ap (λ ps. fixed_to ps i) (take_read pairs j pair within (is ∙ get_or_default pairs j (0, 0) pair within)) ∙ fixed_to-more (take j pairs) pair i

    either : (i : ℕ) → i < count → (i ≡ pair.0) ⊎ (i ≡ pair.0 → ⊥) → slice_index_or new i None ≡ fixed_to (take (j + 1) pairs) i
    either i below (inl same) =
        let room : pair.0 < length old = omega (arith, less, upto.each) in
        let known : get_or old pair.0 None ≡ fixed_to (take j pairs) i = upto.fixed_so pair.0 less ∙ ap (fixed_to (take j pairs)) (sym same) in
        ap (λ l. get_or l i None) written ∙ ap (λ k. get_or (set old pair.0 (option_or (get_or old pair.0 None) (Some pair.1))) k None) same
        ∙ get_or-set_same old pair.0 (option_or (get_or old pair.0 None) (Some pair.1)) None room
        ∙ ap₂ option_or known (ap (λ b. if b then Some pair.1 else None) (sym (eq-eqb pair.0 i (sym same)))) ∙ sym (asked i)
    either i below (inr apart) =
        ap (λ l. get_or l i None) written ∙ get_or-set_other old pair.0 i (option_or (get_or old pair.0 None) (Some pair.1)) None apart ∙ upto.fixed_so i below
        ∙ sym (asked i ∙ ap (λ b. option_or (fixed_to (take j pairs) i) (if b then Some pair.1 else None)) (ne_eqb pair.0 i (λ e. apart (sym e))) ∙ no_place (fixed_to (take j pairs) i))

pub fixed_end : (pairs fixed : List (ℕ × ℕ)) (count j : ℕ) (places : List (Option ℕ)) → length pairs ≤ j → pairs ≡ fixed → AreFixed (take j pairs) count places → AreFixed fixed count places
fixed_end pairs fixed count j places all are upto = subst (λ ps. AreFixed ps count places) (take_all j pairs all ∙ are) upto

-- the counts up to a place
abbrev pub CountsUpTo : List ℕ → ℕ → ℕ → List ℕ → Type 0
CountsUpTo kept place count before =
    (count ≡ kept_before kept place) × (length before ≡ place + 1) × ((k : ℕ) → k < place + 1 → slice_index before k ≡ kept_before kept k)

pub counts_begin : (kept olds new : List ℕ) → olds ≡ [] → new ≡ olds ++ 0 ∷ [] → CountsUpTo kept 0 0 new
counts_begin kept olds new none written =
    let is : new ≡ 0 ∷ [] = written ∙ ap (λ l. l ++ 0 ∷ []) none in
    subst (CountsUpTo kept 0 0) (sym is) (refl, refl, λ k less. let same : 0 ≡ k = omega (arith, less) in subst (λ j. slice_index (0 ∷ []) j ≡ kept_before kept j) same refl)

before_or_at : (k n : ℕ) → k < n + 1 → (k < n) ⊎ (k ≡ n)
before_or_at k n small = grind arith

pub counts_more : (kept : List ℕ) (place count next : ℕ) (mark : Bool) (old new : List ℕ) → mark ≡ is_kept kept place → next ≡ (if mark then count + 1 else count) → new ≡ old ++ next ∷ [] →
    CountsUpTo kept place count old → CountsUpTo kept (place + 1) next new
counts_more kept place count next mark old new mark_is next_is written upto = (
  counted_next,
  ap length written ∙ length-append old (next ∷ []) ∙ omega (arith, upto.1),
  λ k less. either k (before_or_at k (place + 1) less),
)
  where
    step : (b : Bool) → (if b then count + 1 else count) ≡ (if b then suc (kept_before kept place) else kept_before kept place)
    step true = omega (arith, upto.0)
    step false = upto.0

    counted_next : next ≡ kept_before kept (place + 1)
    counted_next = next_is ∙ step mark ∙ ap (λ b. if b then suc (kept_before kept place) else kept_before kept place) mark_is ∙ ap (kept_before kept) (sym (add-one place))

    either : (k : ℕ) → (k < place + 1) ⊎ (k ≡ place + 1) → slice_index new k ≡ kept_before kept k
    either k (inl less) =
        let room : k < length old = omega (arith, less, upto.1) in
        ap (λ l. slice_index l k) written ∙ get_or_append_left old (next ∷ []) 0 k room ∙ upto.2 k less
    either k (inr same) =
        let none : k - (place + 1) ≡ 0 = omega (arith, same) in
        let far : place + 1 ≤ k = omega (arith, same) in
        ap (λ l. slice_index l k) written ∙ get_or-append_right old (next ∷ []) (place + 1) k 0 upto.1 far ∙ ap (slice_index (next ∷ [])) none
        ∙ counted_next ∙ ap (kept_before kept) (sym same)

pub counts_end : (kept : List ℕ) (place count last : ℕ) (before : List ℕ) → place ≡ count → CountsUpTo kept place last before → AreCounts kept count before
counts_end kept place count last before all upto = record {
  one_more = upto.1 ∙ omega (arith, all);
  counted = λ k less. upto.2 k (omega (arith, less, all));
}
