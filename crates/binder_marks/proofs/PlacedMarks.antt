-- Marks at the places of variables.
use Rattle.std.proofs.Common.{◌≡◌, ◌≢◌, ◌⊎◌, inl, inr, ℕ, zero, suc, ◌+◌, ◌-◌, ◌<◌, ◌≤◌, List, [], ◌∷◌, ◌++◌, Bool, true, false, ◌||◌, nat_eq, length, get_or, set, All, refl, sym, ap, ◌∙◌, subst, arith, length-append, length-set}
use Rattle.std.proofs.lemmas.List.{set-set, set-append_left, set_at}
use Rattle.std.proofs.lemmas.List.Elements.{All-head, All-tail}
use Rattle.std.proofs.lemmas.Bool.{eq-eqb, ne_eqb}
use Rattle.binder_marks.specs.Marks.{with_mark, with_marks, ArePlaces}

-- One mark.

length-with_mark : (p : ℕ) (b : Bool) (ms : List Bool) → length (with_mark p b ms) ≡ length ms
length-with_mark p true ms = length-set ms p true
length-with_mark p false ms = refl

with_mark_twice : (p : ℕ) (b c : Bool) (ms : List Bool) → with_mark p c (with_mark p b ms) ≡ with_mark p (b || c) ms
with_mark_twice p true true ms = set-set ms p true true
with_mark_twice p true false ms = refl
with_mark_twice p false true ms = refl
with_mark_twice p false false ms = refl

set_true_comm : (ms : List Bool) (p q : ℕ) → set (set ms p true) q true ≡ set (set ms q true) p true
set_true_comm [] p q = refl
set_true_comm (m ∷ ms) zero zero = refl
set_true_comm (m ∷ ms) zero (suc q) = refl
set_true_comm (m ∷ ms) (suc p) zero = refl
set_true_comm (m ∷ ms) (suc p) (suc q) = ap (λ l. m ∷ l) (set_true_comm ms p q)

with_mark_comm : (p q : ℕ) (b c : Bool) (ms : List Bool) → with_mark q c (with_mark p b ms) ≡ with_mark p b (with_mark q c ms)
with_mark_comm p q true true ms = set_true_comm ms p q
with_mark_comm p q true false ms = refl
with_mark_comm p q false true ms = refl
with_mark_comm p q false false ms = refl

with_mark-append : (p : ℕ) (b : Bool) (ms ns : List Bool) → p < length ms → with_mark p b (ms ++ ns) ≡ with_mark p b ms ++ ns
with_mark-append p true ms ns within = set-append_left ms ns p true within
with_mark-append p false ms ns within = refl

-- the mark at the end of a list
pub with_mark_at : (ms ns : List Bool) (p : ℕ) (b : Bool) → length ms ≡ p → with_mark p b (ms ++ false ∷ ns) ≡ ms ++ b ∷ ns
with_mark_at ms ns p true is = set_at ms false ns true p is
with_mark_at ms ns p false is = refl

-- The marks of all variables.

pub length-with_marks : (ps : List ℕ) (f : ℕ → Bool) (ms : List Bool) → length (with_marks ps f ms) ≡ length ms
length-with_marks [] f ms = refl
length-with_marks (p ∷ ps) f ms = length-with_marks ps f (with_mark p (f (length ps)) ms) ∙ length-with_mark p (f (length ps)) ms

with_marks_mark : (ps : List ℕ) (f : ℕ → Bool) (q : ℕ) (c : Bool) (ms : List Bool) → with_marks ps f (with_mark q c ms) ≡ with_mark q c (with_marks ps f ms)
with_marks_mark [] f q c ms = refl
with_marks_mark (p ∷ ps) f q c ms =
    ap (λ l. with_marks ps f l) (with_mark_comm q p c (f (length ps)) ms) ∙ with_marks_mark ps f q c (with_mark p (f (length ps)) ms)

pub with_marks_twice : (ps : List ℕ) (f g : ℕ → Bool) (ms : List Bool) → with_marks ps g (with_marks ps f ms) ≡ with_marks ps (λ n. f n || g n) ms
with_marks_twice [] f g ms = refl
with_marks_twice (p ∷ ps) f g ms =
    let b = f (length ps) in
    let c = g (length ps) in
    ap (λ l. with_marks ps g l) (sym (with_marks_mark ps f p c (with_mark p b ms))) ∙ with_marks_twice ps f g (with_mark p c (with_mark p b ms))
    ∙ ap (λ l. with_marks ps (λ n. f n || g n) l) (with_mark_twice p b c ms)

pub with_marks_same : (ps : List ℕ) (f g : ℕ → Bool) (ms : List Bool) → ((n : ℕ) → f n ≡ g n) → with_marks ps f ms ≡ with_marks ps g ms
with_marks_same [] f g ms same = refl
with_marks_same (p ∷ ps) f g ms same =
    ap (λ b. with_marks ps f (with_mark p b ms)) (same (length ps)) ∙ with_marks_same ps f g (with_mark p (g (length ps)) ms) same

pub with_marks_none : (ps : List ℕ) (f : ℕ → Bool) (ms : List Bool) → ((n : ℕ) → n < length ps → f n ≡ false) → with_marks ps f ms ≡ ms
with_marks_none [] f ms none = refl
with_marks_none (p ∷ ps) f ms none =
    ap (λ b. with_marks ps f (with_mark p b ms)) (none (length ps) (omega arith)) ∙ with_marks_none ps f ms (λ n below. none n (omega arith))

places_after : (ps : List ℕ) (p : ℕ) (b : Bool) (ms : List Bool) → ArePlaces (p ∷ ps) ms → ArePlaces ps (with_mark p b ms)
places_after ps p b ms places =
    let P : ℕ → Type 0 = λ n. All (λ place. place < n) ps in
    subst P (sym (length-with_mark p b ms)) (All-tail (λ place. place < length ms) p ps places)

pub with_marks-append : (ps : List ℕ) (f : ℕ → Bool) (ms ns : List Bool) → ArePlaces ps ms → with_marks ps f (ms ++ ns) ≡ with_marks ps f ms ++ ns
with_marks-append [] f ms ns places = refl
with_marks-append (p ∷ ps) f ms ns places =
    let b = f (length ps) in
    ap (λ l. with_marks ps f l) (with_mark-append p b ms ns (All-head (λ place. place < length ms) p ps places))
    ∙ with_marks-append ps f (with_mark p b ms) ns (places_after ps p b ms places)

-- one more variable, inside the others
pub with_marks_newest : (ps : List ℕ) (q : ℕ) (f : ℕ → Bool) (ms : List Bool) → with_marks (ps ++ q ∷ []) f ms ≡ with_mark q (f 0) (with_marks ps (λ n. f (suc n)) ms)
with_marks_newest [] q f ms = refl
with_marks_newest (p ∷ ps) q f ms =
    let longer : length (ps ++ q ∷ []) ≡ suc (length ps) = omega (arith, length-append ps (q ∷ [])) in
    ap (λ n. with_marks (ps ++ q ∷ []) f (with_mark p (f n) ms)) longer ∙ with_marks_newest ps q f (with_mark p (f (suc (length ps))) ms)

-- one variable alone
one_marked : (ps : List ℕ) (f : ℕ → Bool) (k i : ℕ) (ms : List Bool) → i + suc k ≡ length ps → f k ≡ true → ((n : ℕ) → n ≢ k → f n ≡ false) →
    with_marks ps f ms ≡ set ms (get_or ps i 0) true
one_marked [] f k i ms is here others = absurd (omega arith)
one_marked (p ∷ ps) f k zero ms is here others =
    let last : length ps ≡ k = omega arith in
    ap (λ b. with_marks ps f (with_mark p b ms)) (ap f last ∙ here) ∙ with_marks_none ps f (set ms p true) (λ n below. others n (λ e. omega arith))
one_marked (p ∷ ps) f k (suc i) ms is here others =
    ap (λ b. with_marks ps f (with_mark p b ms)) (others (length ps) (λ e. omega arith)) ∙ one_marked ps f k i ms (omega arith) here others

-- the variable of a number, under `local` abstractions
pub variable_marked : (ps : List ℕ) (local number i : ℕ) (ms : List Bool) → local ≤ number → i + suc (number - local) ≡ length ps →
    set ms (get_or ps i 0) true ≡ with_marks ps (λ n. nat_eq (local + n) number) ms
variable_marked ps local number i ms outside is =
    sym (one_marked ps (λ n. nat_eq (local + n) number) (number - local) i ms is (eq-eqb (local + (number - local)) number (omega arith))
    (λ n other. ne_eqb (local + n) number (λ e. other (omega arith))))

pub variable_outside : (ps : List ℕ) (local number : ℕ) (ms : List Bool) → (number < local) ⊎ (length ps ≤ number - local) → ms ≡ with_marks ps (λ n. nat_eq (local + n) number) ms
variable_outside ps local number ms far =
    sym (with_marks_none ps (λ n. nat_eq (local + n) number) ms (λ n below. ne_eqb (local + n) number (λ e. elim far [ inl a ↦ omega arith | inr b ↦ omega arith ])))
