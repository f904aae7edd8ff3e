-- What is true of all that is built of lists: of filtered hypotheses, of tuples, and of numbers in order.
use Rattle.std.proofs.Common.{◌≡◌, ℕ, zero, suc, ◌+◌, ◌<◌, ◌≤◌, Bool, true, false, Option, Some, None, List, [], ◌∷◌, map, All, AllPairs, refl, arith}
use Rattle.std.specs.Prelude.{if◌then◌else◌}
use Rattle.std.proofs.lemmas.List.Elements.{All-nil, All-cons, All-head, All-tail, All-append, All-weaker, All-map}
use Rattle.std.proofs.lemmas.List.Kept.{AllPairs-cons}
use Rattle.applications.specs.Candidates.{counting_from, is_atomic, LfHypothesis, are_atomic, have_binders, where_some, each, tuples}

pub no_pairs : {X : Type 0} (R : X → X → Type 0) → AllPairs R []
no_pairs R i j d less within = absurd (omega (arith, within))

pub All-where_some : {A B : Type 0} (P : B → Type 0) (o : Option A) (f : A → List B) → ((a : A) → o ≡ Some a → All P (f a)) → All P (where_some o f)
All-where_some P None f all = All-nil P
All-where_some P (Some a) f all = all a refl

pub All-each : {A B : Type 0} (Q : A → Type 0) (P : B → Type 0) (f : A → List B) → ((a : A) → Q a → All P (f a)) → (xs : List A) → All Q xs → All P (each xs f)
All-each Q P f step [] all = All-nil P
All-each Q P f step (x ∷ xs) all = All-append P (f x) (each xs f) (step x (All-head Q x xs all)) (All-each Q P f step xs (All-tail Q x xs all))

-- a hypothesis of which something is true, and which has no binders
abbrev pub IsAtomicHypothesis : (LfHypothesis → Type 0) → LfHypothesis → Type 0
IsAtomicHypothesis P h = P h × (is_atomic h.type ≡ true)

pub All-are_atomic : (P : LfHypothesis → Type 0) (hs : List LfHypothesis) → All P hs → All (IsAtomicHypothesis P) (are_atomic hs)
All-are_atomic P [] all = All-nil (IsAtomicHypothesis P)
All-are_atomic P (h ∷ rest) all = step (is_atomic h.type) refl (All-are_atomic P rest (All-tail P h rest all))
  where
    step : (b : Bool) → is_atomic h.type ≡ b → All (IsAtomicHypothesis P) (are_atomic rest) → All (IsAtomicHypothesis P) (if b then h ∷ are_atomic rest else are_atomic rest)
    step true is later = All-cons (IsAtomicHypothesis P) h (are_atomic rest) (All-head P h rest all, is) later
    step false is later = later

pub All-have_binders : (P : LfHypothesis → Type 0) (hs : List LfHypothesis) → All P hs → All P (have_binders hs)
All-have_binders P [] all = All-nil P
All-have_binders P (h ∷ rest) all = step (is_atomic h.type) (All-have_binders P rest (All-tail P h rest all))
  where
    step : (b : Bool) → All P (have_binders rest) → All P (if b then have_binders rest else h ∷ have_binders rest)
    step true later = later
    step false later = All-cons P h (have_binders rest) (All-head P h rest all) later

pub All-tuples : (P : LfHypothesis → Type 0) (count : ℕ) (hs : List LfHypothesis) → All P hs → All (All P) (tuples count hs)
All-tuples P zero hs all = All-cons (All P) [] [] (All-nil P) (All-nil (All P))
All-tuples P (suc count) hs all =
    All-each P (All P) (λ h. map (λ rest. h ∷ rest) (tuples count hs))
    (λ h p. All-map (All P) (λ rest. h ∷ rest) (tuples count hs) (All-weaker (All P) (λ rest. All P (h ∷ rest)) (λ rest. All-cons P h rest p) (tuples count hs) (All-tuples P count hs all)))
    hs all

-- numbers in order
pub numbers_within : (n count : ℕ) → All (λ m. (n ≤ m) × (m < n + count)) (counting_from n count)
numbers_within n zero = All-nil (λ m. (n ≤ m) × (m < n + 0))
numbers_within n (suc count) =
    All-cons (λ m. (n ≤ m) × (m < n + suc count)) n (counting_from (suc n) count) (omega arith, omega arith)
    (All-weaker (λ m. (suc n ≤ m) × (m < suc n + count)) (λ m. (n ≤ m) × (m < n + suc count)) (λ m both. let low = both.0 in let high = both.1 in (omega (arith, low), omega (arith, high)))
    (counting_from (suc n) count) (numbers_within (suc n) count))

pub numbers_rise : (n count : ℕ) → AllPairs (λ x y. x < y) (counting_from n count)
numbers_rise n zero = no_pairs (λ x y. x < y)
numbers_rise n (suc count) =
    AllPairs-cons (λ x y. x < y) n (counting_from (suc n) count)
    (All-weaker (λ m. (suc n ≤ m) × (m < suc n + count)) (λ m. n < m) (λ m both. let low = both.0 in omega (arith, low)) (counting_from (suc n) count) (numbers_within (suc n) count))
    (numbers_rise (suc n) count)
