-- Places of numbers in a list.
use Rattle.std.proofs.Common.{◌≡◌, ℕ, zero, suc, ◌+◌, ◌<◌, ◌≤◌, Bool, true, false, cond, Some, None, List, [], ◌∷◌, length, refl, sym, ap, ◌∙◌, arith, if◌then◌else◌, inl, inr}
use Rattle.std.specs.Prelude.{nat_eq, nat_lt, not}
use Rattle.std.specs.Cmp.{nat_eq_equiv}
use Rattle.std.specs.List.{position, position_or_len}
use Rattle.std.proofs.lemmas.Bool.{cases_Bool, lt-ltb}
use Rattle.head_laws.specs.Renumbering.{place_of_number}

place_step : (b : Bool) (p q : ℕ) → p ≡ q → (if b then zero else suc p) ≡ cond (not b) (1 + q) 0
place_step true p q e = refl
place_step false p q e = ap suc e ∙ omega arith

place_is_position : (ns : List ℕ) (n : ℕ) → place_of_number ns n ≡ position_or_len (nat_eq n) ns
place_is_position [] n = refl
place_is_position (m ∷ rest) n =
    place_step (nat_eq m n) (place_of_number rest n) (position_or_len (nat_eq n) rest) (place_is_position rest n)
    ∙ ap (λ b. cond (not b) (1 + position_or_len (nat_eq n) rest) 0) (nat_eq_equiv.symm m n)

within_step : (b : Bool) (p k : ℕ) → p ≤ k → (if b then zero else suc p) ≤ suc k
within_step true p k less = omega arith
within_step false p k less = omega arith

place_within : (ns : List ℕ) (n : ℕ) → place_of_number ns n ≤ length ns
place_within [] n = omega arith
place_within (m ∷ rest) n = within_step (nat_eq m n) (place_of_number rest n) (length rest) (place_within rest n)

found_place : (b : Bool) (m p : ℕ) → Some p ≡ cond b (Some m) None → p ≡ m
found_place true m p e = cc
found_place false m p e = absurd cc

pub place_when_found : (ns : List ℕ) (n p : ℕ) → Some p ≡ position (nat_eq n) ns → p ≡ place_of_number ns n
place_when_found ns n p e = found_place (nat_lt (position_or_len (nat_eq n) ns) (length ns)) (position_or_len (nat_eq n) ns) p e ∙ sym (place_is_position ns n)

pub place_when_absent : (ns : List ℕ) (n : ℕ) → None ≡ position (nat_eq n) ns → length ns ≡ place_of_number ns n
place_when_absent ns n e =
    elim (cases_Bool (nat_lt (position_or_len (nat_eq n) ns) (length ns))) [
      | inl here ↦ let some : position (nat_eq n) ns ≡ Some (position_or_len (nat_eq n) ns) = ap (λ b. cond b (Some (position_or_len (nat_eq n) ns)) None) here in absurd cc
      | inr none ↦
          let far : position_or_len (nat_eq n) ns < length ns → ⊥ = λ less. let here = lt-ltb _ _ less in cc in
          omega (arith, place_within ns n, place_is_position ns n, far)
    ]
