-- Addresses are compared, and an address with one step more.
use Rattle.std.proofs.Common.{◌≡◌, ℕ, Bool, true, false, [], ◌∷◌, ◌++◌, length, Decides, refl, sym, ap, ap₂, arith}
use Rattle.std.specs.Prelude.{◌&&◌, nat_eq}
use Rattle.std.proofs.Math.ListN.{length-append}
use Rattle.std.proofs.lemmas.Bool.Decides.{Decides-eqb, Decides-like, Decides-and}
use Rattle.tree_runs.specs.Addresses.{Address}
use Rattle.answer_definitions.specs.Chosen.{same_address}

abbrev step_by : ℕ → ℕ → ℕ × ℕ
step_by alternative place = (alternative, place)

same_parts : (p q : ℕ × ℕ) (ps qs : Address) → (p.0 ≡ q.0) × ((p.1 ≡ q.1) × (ps ≡ qs)) → p ∷ ps ≡ q ∷ qs
same_parts p q ps qs parts = ap₂ (λ (step : ℕ × ℕ) rest. step ∷ rest) (ap₂ step_by parts.0 parts.1.0) parts.1.1

parts_same : (p q : ℕ × ℕ) (ps qs : Address) → p ∷ ps ≡ q ∷ qs → (p.0 ≡ q.0) × ((p.1 ≡ q.1) × (ps ≡ qs))
parts_same p q ps qs e =
    let first : p ≡ q = cc in
    let rest : ps ≡ qs = cc in
    (ap (λ (step : ℕ × ℕ). step.0) first, (ap (λ (step : ℕ × ℕ). step.1) first, rest))

pub same_address_decides : (ps qs : Address) → Decides (same_address ps qs) (ps ≡ qs)
same_address_decides [] [] = (λ e. refl, λ e. refl)
same_address_decides [] (q ∷ qs) = (λ e. absurd cc, λ e. absurd cc)
same_address_decides (p ∷ ps) [] = (λ e. absurd cc, λ e. absurd cc)
same_address_decides (p ∷ ps) (q ∷ qs) =
    Decides-like (nat_eq p.0 q.0 && (nat_eq p.1 q.1 && same_address ps qs)) (same_parts p q ps qs) (parts_same p q ps qs)
    (Decides-and (nat_eq p.0 q.0) (nat_eq p.1 q.1 && same_address ps qs) (Decides-eqb p.0 q.0)
    (Decides-and (nat_eq p.1 q.1) (same_address ps qs) (Decides-eqb p.1 q.1) (same_address_decides ps qs)))

pub own_address : (p : Address) → same_address p p ≡ true
own_address p = (same_address_decides p p).1 refl

pub other_address : (p q : Address) → (p ≡ q → ⊥) → same_address p q ≡ false
other_address p q other = step (same_address p q) refl
  where
    step : (b : Bool) → same_address p q ≡ b → b ≡ false
    step true e = absurd (other ((same_address_decides p q).0 e))
    step false e = refl

-- truth values that hold alike
pub alike : (b c : Bool) → (b ≡ true → c ≡ true) → (c ≡ true → b ≡ true) → b ≡ c
alike true true to from = refl
alike true false to from = sym (to refl)
alike false true to from = from refl
alike false false to from = refl

-- An address is not the one of a step more.
pub no_own_step : (c : Address) (step : ℕ × ℕ) → c ≡ c ++ step ∷ [] → ⊥
no_own_step c step e =
    let size : length c ≡ length (c ++ step ∷ []) = ap length e in
    let more = length-append c (step ∷ []) in
    absurd (omega (arith, size, more))

no_step_alone : (s t y : ℕ × ℕ) (d : Address) → s ∷ [] ≡ y ∷ (d ++ t ∷ []) → ⊥
no_step_alone s t y d e =
    let size : length (s ∷ []) ≡ length (y ∷ (d ++ t ∷ [])) = ap length e in
    let more = length-append d (t ∷ []) in
    absurd (omega (arith, size, more))

-- One step more is one step more of one address only.
pub one_step_only : (c d : Address) (s t : ℕ × ℕ) → c ++ s ∷ [] ≡ d ++ t ∷ [] → (c ≡ d) × (s ≡ t)
one_step_only [] [] s t e = (refl, cc)
one_step_only [] (y ∷ d) s t e = absurd (no_step_alone s t y d e)
one_step_only (x ∷ c) [] s t e = absurd (no_step_alone t s x c (sym e))
one_step_only (x ∷ c) (y ∷ d) s t e =
    let rest : c ++ s ∷ [] ≡ d ++ t ∷ [] = cc in
    let first : x ≡ y = cc in
    let later = one_step_only c d s t rest in
    (ap₂ (λ (step : ℕ × ℕ) ps. step ∷ ps) first later.0, later.1)
