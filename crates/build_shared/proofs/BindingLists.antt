-- Lists of bindings whose numbers differ.
use Rattle.std.proofs.Common.{◌≡◌, ◌≢◌, ℕ, zero, suc, ◌+◌, ◌<◌, ◌≤◌, Bool, true, false, Some, None, List, [], ◌∷◌, ◌++◌, length, take, All, AllPairs, refl, sym, ap, ap₂, ◌∙◌, subst, arith, slice_get, append_assoc}
use Rattle.std.specs.Prelude.{nat_lt, if◌then◌else◌, ◌||◌}
use Rattle.std.specs.List.{list_any}
use Rattle.std.proofs.lemmas.List.Folds.{list_any-append}
use Rattle.std.proofs.lemmas.Bool.{eq-eqb, ne_eqb, lt-ltb, le-ltb}
use Rattle.std.proofs.lemmas.List.Elements.{All-nil, All-cons, All-head, All-tail, All-append}
use Rattle.std.proofs.lemmas.Option.{slice_get_within, get_or_from_slice_get}
use Rattle.head_laws.proofs.Numbers.{AllPairs-head, AllPairs-tail}
use Rattle.goal_lists.proofs.Leaving.{All-parts}
use Rattle.meta_goals.specs.Bindings.{LfBinding, binding_for}
use Rattle.build_shared.specs.Whole.{bindings_below}

abbrev pub HaveDifferentNumbers : List LfBinding → Type 0
HaveDifferentNumbers bindings = AllPairs (λ (b : LfBinding) c. b.number ≢ c.number) bindings

-- lists by their places
pub take_found : {X : Type 0} (xs : List X) (i : ℕ) (x : X) → slice_get xs i ≡ Some x → take (i + 1) xs ≡ take i xs ++ x ∷ []
take_found [] i x e = absurd cc
take_found (y ∷ xs) zero x e = let same : y ≡ x = cc in ap (λ z. z ∷ []) same
take_found (y ∷ xs) (suc i) x e =
    let count : suc i + 1 ≡ suc (i + 1) = omega arith in
    ap (λ n. take n (y ∷ xs)) count ∙ ap (λ rest. y ∷ rest) (take_found xs i x e)

pub nothing_within : {X : Type 0} (xs : List X) (i : ℕ) → i < length xs → slice_get xs i ≡ None → ⊥
nothing_within [] i within e = omega (arith, within)
nothing_within (x ∷ xs) zero within e = cc
nothing_within (x ∷ xs) (suc i) within e = nothing_within xs i (omega (arith, within)) e

pub All-at : {X : Type 0} (P : X → Type 0) (xs : List X) (i : ℕ) (x : X) → All P xs → slice_get xs i ≡ Some x → P x
All-at P xs i x all e = subst P (get_or_from_slice_get xs i x x e) (all i x (slice_get_within xs i x e))

pub All-from_places : {X : Type 0} (P : X → Type 0) (xs : List X) → ((i : ℕ) (x : X) → slice_get xs i ≡ Some x → P x) → All P xs
All-from_places P [] each = All-nil P
All-from_places P (x ∷ xs) each = All-cons P x xs (each zero x refl) (All-from_places P xs (λ i y e. each (suc i) y e))

-- No binding has the number.
pub none_of : (bindings : List LfBinding) (n : ℕ) → All (λ (b : LfBinding). b.number ≢ n) bindings → binding_for bindings n ≡ None
none_of [] n all = refl
none_of (b ∷ rest) n all =
    ap (λ test. if test then Some b else binding_for rest n) (ne_eqb b.number n (All-head (λ (x : LfBinding). x.number ≢ n) b rest all)) ∙ none_of rest n (All-tail (λ (x : LfBinding). x.number ≢ n) b rest all)

pub before_differ : (bindings : List LfBinding) (i : ℕ) (b : LfBinding) → slice_get bindings i ≡ Some b → HaveDifferentNumbers bindings → All (λ (x : LfBinding). x.number ≢ b.number) (take i bindings)
before_differ [] i b e differ = absurd cc
before_differ (x ∷ xs) zero b e differ = All-nil (λ (y : LfBinding). y.number ≢ b.number)
before_differ (x ∷ xs) (suc i) b e differ =
    All-cons (λ (y : LfBinding). y.number ≢ b.number) x (take i xs) (All-at (λ (y : LfBinding). x.number ≢ y.number) xs i b (AllPairs-head (λ (y : LfBinding) z. y.number ≢ z.number) x xs differ) e)
    (before_differ xs i b e (AllPairs-tail (λ (y : LfBinding) z. y.number ≢ z.number) x xs differ))

-- A binding is found by its number.
pub found_own : (bindings : List LfBinding) (i : ℕ) (b : LfBinding) → slice_get bindings i ≡ Some b → HaveDifferentNumbers bindings → binding_for bindings b.number ≡ Some b
found_own [] i b e differ = absurd cc
found_own (x ∷ xs) zero b e differ =
    let same : x ≡ b = cc in
    ap (λ test. if test then Some x else binding_for xs b.number) (eq-eqb x.number b.number (ap (λ (y : LfBinding). y.number) same)) ∙ ap Some same
found_own (x ∷ xs) (suc i) b e differ =
    let other = All-at (λ (y : LfBinding). x.number ≢ y.number) xs i b (AllPairs-head (λ (y : LfBinding) z. y.number ≢ z.number) x xs differ) e in
    ap (λ test. if test then Some x else binding_for xs b.number) (ne_eqb x.number b.number other) ∙ found_own xs i b e (AllPairs-tail (λ (y : LfBinding) z. y.number ≢ z.number) x xs differ)

-- those below a number
pub below_more : (n : ℕ) (xs : List LfBinding) (b : LfBinding) → bindings_below n (xs ++ b ∷ []) ≡ bindings_below n xs ++ bindings_below n (b ∷ [])
below_more n [] b = refl
below_more n (x ∷ xs) b = each (nat_lt x.number n) (below_more n xs b)
  where
    each : (test : Bool) → bindings_below n (xs ++ b ∷ []) ≡ bindings_below n xs ++ bindings_below n (b ∷ []) →
        (if test then x ∷ bindings_below n (xs ++ b ∷ []) else bindings_below n (xs ++ b ∷ [])) ≡ (if test then x ∷ bindings_below n xs else bindings_below n xs) ++ bindings_below n (b ∷ [])
    each true later = ap (λ l. x ∷ l) later
    each false later = later

pub All-below : (P : LfBinding → Type 0) (n : ℕ) (xs : List LfBinding) → All P xs → All P (bindings_below n xs)
All-below P n [] all = All-nil P
All-below P n (x ∷ xs) all = each (nat_lt x.number n) (All-below P n xs (All-tail P x xs all))
  where
    each : (test : Bool) → All P (bindings_below n xs) → All P (if test then x ∷ bindings_below n xs else bindings_below n xs)
    each true later = All-cons P x (bindings_below n xs) (All-head P x xs all) later
    each false later = later

pub is_below : (n : ℕ) (b : LfBinding) → b.number < n → bindings_below n (b ∷ []) ≡ b ∷ []
is_below n b less = ap (λ test. if test then b ∷ [] else []) (lt-ltb b.number n less)

pub is_not_below : (n : ℕ) (b : LfBinding) → n ≤ b.number → bindings_below n (b ∷ []) ≡ []
is_not_below n b more = ap (λ test. if test then b ∷ [] else []) (le-ltb b.number n more)

-- Those after others differ from them, and from each other.
others_differ : (old entries : List LfBinding) (i : ℕ) (b : LfBinding) → slice_get entries i ≡ Some b → HaveDifferentNumbers (old ++ entries) → All (λ (x : LfBinding). x.number ≢ b.number) old
others_differ [] entries i b there differ = All-nil (λ (x : LfBinding). x.number ≢ b.number)
others_differ (x ∷ old) entries i b there differ =
    All-cons (λ (y : LfBinding). y.number ≢ b.number) x old
    (All-at (λ (y : LfBinding). x.number ≢ y.number) entries i b (All-parts (λ (y : LfBinding). x.number ≢ y.number) old entries (AllPairs-head (λ (y : LfBinding) z. y.number ≢ z.number) x (old ++ entries) differ)).1 there)
    (others_differ old entries i b there (AllPairs-tail (λ (y : LfBinding) z. y.number ≢ z.number) x (old ++ entries) differ))

differ_after : (old entries : List LfBinding) → HaveDifferentNumbers (old ++ entries) → HaveDifferentNumbers entries
differ_after [] entries differ = differ
differ_after (x ∷ old) entries differ = differ_after old entries (AllPairs-tail (λ (y : LfBinding) z. y.number ≢ z.number) x (old ++ entries) differ)

-- one more of those below
pub below_next : (n : ℕ) (bindings : List LfBinding) (i : ℕ) (b : LfBinding) (old below new : List LfBinding) → slice_get bindings i ≡ Some b → below ≡ old ++ bindings_below n (take i bindings) → new ≡ below ++ bindings_below n (b ∷ []) →
    new ≡ old ++ bindings_below n (take (i + 1) bindings)
below_next n bindings i b old below new there so_far made =
    made ∙ ap (λ l. l ++ bindings_below n (b ∷ [])) so_far ∙ append_assoc old (bindings_below n (take i bindings)) (bindings_below n (b ∷ []))
    ∙ ap (λ l. old ++ l) (sym (below_more n (take i bindings) b) ∙ ap (bindings_below n) (sym (take_found bindings i b there)))

pub below_before : (n : ℕ) (bindings : List LfBinding) (i : ℕ) (b : LfBinding) (old below : List LfBinding) → slice_get bindings i ≡ Some b → HaveDifferentNumbers (old ++ bindings) → below ≡ old ++ bindings_below n (take i bindings) →
    binding_for below b.number ≡ None
below_before n bindings i b old below there differ so_far =
    let those = bindings_below n (take i bindings) in
    ap (λ l. binding_for l b.number) so_far
    ∙ none_of (old ++ those) b.number
    (All-append (λ (x : LfBinding). x.number ≢ b.number) old those (others_differ old bindings i b there differ)
    (All-below (λ (x : LfBinding). x.number ≢ b.number) n (take i bindings) (before_differ bindings i b there (differ_after old bindings differ))))

-- whether one passes a test
pub none_next : (test : LfBinding → Bool) (bindings : List LfBinding) (i : ℕ) (b : LfBinding) → slice_get bindings i ≡ Some b → list_any test (take i bindings) ≡ false → test b ≡ false → list_any test (take (i + 1) bindings) ≡ false
none_next test bindings i b there so_far here =
    ap (list_any test) (take_found bindings i b there) ∙ list_any-append test (take i bindings) (b ∷ []) ∙ ap₂ (λ k l. k || (l || false)) so_far here

pub one_passes : (test : LfBinding → Bool) (bindings : List LfBinding) (i : ℕ) (b : LfBinding) → slice_get bindings i ≡ Some b → test b ≡ true → true ≡ list_any test bindings
one_passes test [] i b there passes = absurd cc
one_passes test (x ∷ xs) zero b there passes = let same : x ≡ b = cc in sym (ap (λ k. k || list_any test xs) (ap test same ∙ passes))
one_passes test (x ∷ xs) (suc i) b there passes = step (test x) (one_passes test xs i b there passes)
  where
    step : (k : Bool) → true ≡ list_any test xs → true ≡ k || list_any test xs
    step true later = refl
    step false later = later
