-- Who holds what after a claim and after a seat gives back.
use Rattle.std.proofs.Common.{◌≡◌, ◌≢◌, ◌⊎◌, inl, inr, ℕ, ◌+◌, ◌≤◌, Bool, true, false, not, cond, ◌&&◌, List, [], ◌∷◌, length, refl, sym, ◌∙◌, arith, eq-eqb}
use Rattle.std.specs.Prelude.{◌==◌}
use Rattle.std.specs.List.{list_any}
use Rattle.std.proofs.lemmas.Bool.{and_parts, eqb-true}
use Rattle.tree_runs.specs.States.{without_seat}
use Rattle.tree_runs.proofs.Best.{or_cases, or_left, or_right}

-- the seat holds the node
abbrev pub holds : List (ℕ × ℕ) → ℕ → ℕ → Bool
holds held seat node = list_any (λ pair. pair.0 == seat && pair.1 == node) held

pub claimed : (s n : ℕ) (held : List (ℕ × ℕ)) (seat node : ℕ) → holds ((s, n) ∷ held) seat node ≡ true → ((s ≡ seat) × (n ≡ node)) ⊎ (holds held seat node ≡ true)
claimed s n held seat node h = elim (or_cases (s == seat && n == node) (holds held seat node) h) [
  | inl here ↦ let parts = and_parts (s == seat) (n == node) here in inl (eqb-true s seat parts.0, eqb-true n node parts.1)
  | inr rest ↦ inr rest
]

pub holds_seat : (held : List (ℕ × ℕ)) (seat node : ℕ) → holds held seat node ≡ true → list_any (λ pair. pair.0 == seat) held ≡ true
holds_seat [] seat node h = absurd cc
holds_seat (pair ∷ held) seat node h = elim (or_cases (pair.0 == seat && pair.1 == node) (holds held seat node) h) [
  | inl here ↦ or_left (pair.0 == seat) (list_any (λ p. p.0 == seat) held) (and_parts (pair.0 == seat) (pair.1 == node) here).0
  | inr rest ↦ or_right (pair.0 == seat) (list_any (λ p. p.0 == seat) held) (holds_seat held seat node rest)
]

pub holds_node : (held : List (ℕ × ℕ)) (seat node : ℕ) → holds held seat node ≡ true → list_any (λ pair. pair.1 == node) held ≡ true
holds_node [] seat node h = absurd cc
holds_node (pair ∷ held) seat node h = elim (or_cases (pair.0 == seat && pair.1 == node) (holds held seat node) h) [
  | inl here ↦ or_left (pair.1 == node) (list_any (λ p. p.1 == node) held) (and_parts (pair.0 == seat) (pair.1 == node) here).1
  | inr rest ↦ or_right (pair.1 == node) (list_any (λ p. p.1 == node) held) (holds_node held seat node rest)
]

given_back_at : (s : ℕ) (pair : ℕ × ℕ) (held rest : List (ℕ × ℕ)) (seat node : ℕ) → (holds rest seat node ≡ true → (seat ≢ s) × (holds held seat node ≡ true)) →
    (b : Bool) → (pair.0 == s) ≡ b → holds (cond (not b) (pair ∷ rest) rest) seat node ≡ true → (seat ≢ s) × (holds (pair ∷ held) seat node ≡ true)
given_back_at s pair held rest seat node more true e h = let found = more h in (found.0, or_right (pair.0 == seat && pair.1 == node) (holds held seat node) found.1)
given_back_at s pair held rest seat node more false e h = elim (or_cases (pair.0 == seat && pair.1 == node) (holds rest seat node) h) [
  | inl here ↦ (
    λ same. let parts = and_parts (pair.0 == seat) (pair.1 == node) here in
        let is : (pair.0 == s) ≡ true = eq-eqb pair.0 s (eqb-true pair.0 seat parts.0 ∙ same) in
        let clash : false ≡ true = sym e ∙ is in cc,
    or_left (pair.0 == seat && pair.1 == node) (holds held seat node) here,
  )
  | inr other ↦ let found = more other in (found.0, or_right (pair.0 == seat && pair.1 == node) (holds held seat node) found.1)
]

-- after a seat gave back, others hold what they held
pub given_back : (s : ℕ) (held : List (ℕ × ℕ)) (seat node : ℕ) → holds (without_seat s held) seat node ≡ true → (seat ≢ s) × (holds held seat node ≡ true)
given_back s [] seat node h = absurd cc
given_back s (pair ∷ held) seat node h = given_back_at s pair held (without_seat s held) seat node (given_back s held seat node) (pair.0 == s) refl h

fewer_at : (s : ℕ) (pair : ℕ × ℕ) (held rest : List (ℕ × ℕ)) → length rest ≤ length held → (b : Bool) → length (cond (not b) (pair ∷ rest) rest) ≤ length (pair ∷ held)
fewer_at s pair held rest h true = omega arith
fewer_at s pair held rest h false = omega arith

pub no_more_held : (s : ℕ) (held : List (ℕ × ℕ)) → length (without_seat s held) ≤ length held
no_more_held s [] = omega arith
no_more_held s (pair ∷ held) = fewer_at s pair held (without_seat s held) (no_more_held s held) (pair.0 == s)

one_fewer_at : (s node : ℕ) (pair : ℕ × ℕ) (held rest : List (ℕ × ℕ)) → length rest ≤ length held → (holds held s node ≡ true → length rest + 1 ≤ length held) → (b : Bool) → (pair.0 == s) ≡ b →
    holds (pair ∷ held) s node ≡ true → length (cond (not b) (pair ∷ rest) rest) + 1 ≤ length (pair ∷ held)
one_fewer_at s node pair held rest small more true e h = omega arith
one_fewer_at s node pair held rest small more false e h = elim (or_cases (pair.0 == s && pair.1 == node) (holds held s node) h) [
  | inl here ↦ absurd (let clash : false ≡ true = sym e ∙ (and_parts (pair.0 == s) (pair.1 == node) here).0 in cc)
  | inr other ↦ let found = more other in omega (arith, found)
]

-- a seat that holds something gives back
pub one_fewer_held : (s node : ℕ) (held : List (ℕ × ℕ)) → holds held s node ≡ true → length (without_seat s held) + 1 ≤ length held
one_fewer_held s node [] h = absurd cc
one_fewer_held s node (pair ∷ held) h = one_fewer_at s node pair held (without_seat s held) (no_more_held s held) (one_fewer_held s node held) (pair.0 == s) refl h
