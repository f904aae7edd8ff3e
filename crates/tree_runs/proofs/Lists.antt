-- Entries of lists that are put together or changed at a place.
use Rattle.std.proofs.Common.{◌≡◌, ◌≢◌, ◌⊎◌, inl, inr, ℕ, zero, suc, ◌+◌, ◌<◌, List, [], ◌∷◌, ◌++◌, length, replicate, Option, Some, refl, ap, arith}
use Rattle.std.specs.Prelude.{slice_get, slice_set}

-- a number is below a bound, or reached from it
pub below_or_past : (bound i : ℕ) → (i < bound) ⊎ ((k : ℕ) × (i ≡ bound + k))
below_or_past zero i = inr (i, omega arith)
below_or_past (suc bound) zero = inl (omega arith)
below_or_past (suc bound) (suc i) = elim (below_or_past bound i) [ inl h ↦ inl (omega arith) | inr p ↦ inr (p.0, omega (arith, p.1)) ]

pub same_or_other : (i j : ℕ) → (i ≡ j) ⊎ (i ≢ j)
same_or_other zero zero = inl refl
same_or_other zero (suc j) = inr (λ e. cc)
same_or_other (suc i) zero = inr (λ e. cc)
same_or_other (suc i) (suc j) = elim (same_or_other i j) [ inl e ↦ inl (ap suc e) | inr ne ↦ inr (λ e. ne (omega (arith, e))) ]

pub slice_get-append : {X : Type 0} (xs ys : List X) (i : ℕ) → i < length xs → slice_get (xs ++ ys) i ≡ slice_get xs i
slice_get-append [] ys i h = absurd (omega arith)
slice_get-append (x ∷ xs) ys zero h = refl
slice_get-append (x ∷ xs) ys (suc i) h = slice_get-append xs ys i (omega arith)

pub slice_get-append_past : {X : Type 0} (xs ys : List X) (k i : ℕ) → i ≡ length xs + k → slice_get (xs ++ ys) i ≡ slice_get ys k
slice_get-append_past [] ys k i e = ap (slice_get ys) (omega (arith, e))
slice_get-append_past (x ∷ xs) ys k zero e = absurd (omega (arith, e))
slice_get-append_past (x ∷ xs) ys k (suc i) e = slice_get-append_past xs ys k i (omega (arith, e))

pub slice_get-set_same : {X : Type 0} (xs : List X) (i : ℕ) (x : X) → i < length xs → slice_get (slice_set xs i x) i ≡ Some x
slice_get-set_same [] i x h = absurd (omega arith)
slice_get-set_same (y ∷ xs) zero x h = refl
slice_get-set_same (y ∷ xs) (suc i) x h = slice_get-set_same xs i x (omega arith)

pub slice_get-set_other : {X : Type 0} (xs : List X) (i k : ℕ) (x : X) → k ≢ i → slice_get (slice_set xs i x) k ≡ slice_get xs k
slice_get-set_other [] i k x ne = refl
slice_get-set_other (y ∷ xs) zero zero x ne = absurd (ne refl)
slice_get-set_other (y ∷ xs) zero (suc k) x ne = refl
slice_get-set_other (y ∷ xs) (suc i) zero x ne = refl
slice_get-set_other (y ∷ xs) (suc i) (suc k) x ne = slice_get-set_other xs i k x (λ e. ne (ap suc e))

pub slice_get-replicate : {X : Type 0} (n i : ℕ) (x : X) → i < n → slice_get (replicate n x) i ≡ Some x
slice_get-replicate zero i x h = absurd (omega arith)
slice_get-replicate (suc n) zero x h = refl
slice_get-replicate (suc n) (suc i) x h = slice_get-replicate n i x (omega arith)

-- parts of an entry that is known twice
pub same_pairs : {A B : Type 0} (a c : A) (b d : B) → ◌≡◌ {A = Option (A × B)} (Some (a, b)) (Some (c, d)) → (a ≡ c) × (b ≡ d)
same_pairs {A} {B} a c b d e =
    let inside : ◌≡◌ {A = A × B} (a, b) (c, d) = cc in
    (ap (λ (p : A × B). p.0) inside, ap (λ (p : A × B). p.1) inside)

pub same_ways : (n m i j p q : ℕ) → ◌≡◌ {A = Option (Option (ℕ × ℕ × ℕ))} (Some (Some (n, i, p))) (Some (Some (m, j, q))) → (n ≡ m) × (i ≡ j) × (p ≡ q)
same_ways n m i j p q e =
    let inside : ◌≡◌ {A = ℕ × ℕ × ℕ} (n, i, p) (m, j, q) = cc in
    (ap (λ (w : ℕ × ℕ × ℕ). w.0) inside, ap (λ (w : ℕ × ℕ × ℕ). w.1) inside, ap (λ (w : ℕ × ℕ × ℕ). w.2) inside)
