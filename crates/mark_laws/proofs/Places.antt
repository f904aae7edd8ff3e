-- Bounded search, and choices below a bound.
use Rattle.std.proofs.Common.{◌⊎◌, inl, inr, ℕ, zero, suc, ◌<◌, arith}

with_first : (count : ℕ) (P : ℕ → Type 0) → P 0 → ((i : ℕ) → i < count → P (suc i)) → (i : ℕ) → i < suc count → P i
with_first count P here rest zero low = here
with_first count P here rest (suc i) low = rest i (omega arith)

-- where one of two is so at each place, the first is everywhere or the second somewhere
pub everywhere_or_somewhere : (count : ℕ) (P Q : ℕ → Type 0) → ((i : ℕ) → i < count → P i ⊎ Q i) → ((i : ℕ) → i < count → P i) ⊎ ((i : ℕ) × (i < count) × Q i)
everywhere_or_somewhere zero P Q each = inl (λ i low. absurd (omega arith))
everywhere_or_somewhere (suc count) P Q each = elim (each 0 (omega arith)) [
  | inr here ↦ inr (0, omega arith, here)
  | inl here ↦ elim (everywhere_or_somewhere count (λ i. P (suc i)) (λ i. Q (suc i)) (λ i low. each (suc i) (omega arith))) [
    | inr found ↦ inr (suc found.0, (let low = found.1 in omega (arith, low)), found.2)
    | inl rest ↦ inl (with_first count P here rest)
  ]
]

abbrev first_then : ℕ → (ℕ → ℕ) → ℕ → ℕ
first_then first rest zero = first
first_then first rest (suc i) = rest i

-- choices at all places below a bound are a function
pub chosen : (count : ℕ) (R : ℕ → ℕ → Type 0) → ((i : ℕ) → i < count → (n : ℕ) × R i n) → (choice : ℕ → ℕ) × ((i : ℕ) → i < count → R i (choice i))
chosen zero R each = ((λ i. 0), λ i low. absurd (omega arith))
chosen (suc count) R each =
    let here = each 0 (omega arith) in
    let rest = chosen count (λ i. R (suc i)) (λ i low. each (suc i) (omega arith)) in
    (first_then here.0 rest.0, with_first count (λ i. R i (first_then here.0 rest.0 i)) here.1 rest.1)
