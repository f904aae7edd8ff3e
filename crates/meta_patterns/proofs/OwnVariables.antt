-- The variables of a context in order, and where a variable of a list stands.
use Rattle.std.proofs.Common.{◌≡◌, ◌≢◌, ◌⊎◌, inl, inr, ℕ, zero, suc, ◌-◌, ◌<◌, ◌≤◌, Bool, true, false, not, ◌&&◌, ◌||◌, List, ◌∷◌, length, Option, Some, None, refl, sym, ap, ap₂, ◌∙◌, arith}
use Rattle.std.specs.Prelude.{nat_eq, if◌then◌else◌, is_some}
use Rattle.std.proofs.lemmas.Bool.{eqb-true, eq-eqb, ne_eqb, cases_lt, and_parts}
use Rattle.lf_definitions.specs.Syntax.{Spine, no_args, arg}
use Rattle.head_laws.specs.Renumbering.{place_of_number}
use Rattle.unification.specs.Patterns.{is_number, reads, are_own, variables_of, joined_reading, has_number, are_different, where_different, pattern_of}
use Rattle.meta_patterns.specs.Variables.{own_numbers, placed_number, HasBelow}

pub equal_or_not : (m n : ℕ) → (m ≡ n) ⊎ (m ≢ n)
equal_or_not m n = each (nat_eq m n) refl
  where
    each : (b : Bool) → nat_eq m n ≡ b → (m ≡ n) ⊎ (m ≢ n)
    each true e = inl (eqb-true m n e)
    each false e = inr (λ q. let same : nat_eq m n ≡ true = eq-eqb m n q in cc)

-- where the newest stands, and the others
pub placed_number-here : (m n : ℕ) (rest : List ℕ) → m ≡ n → placed_number (m ∷ rest) n ≡ Some (length rest)
placed_number-here m n rest e = ap (λ b. if b || has_number rest n then Some (suc (length rest) - suc (if b then zero else suc (place_of_number rest n))) else None) (eq-eqb m n e) ∙ ap Some (omega arith)

pub placed_number-later : (m n : ℕ) (rest : List ℕ) → m ≢ n → placed_number (m ∷ rest) n ≡ placed_number rest n
placed_number-later m n rest differ =
    let p = place_of_number rest n in
    let same : suc (length rest) - suc (suc p) ≡ length rest - suc p = omega arith in
    ap (λ b. if b || has_number rest n then Some (suc (length rest) - suc (if b then zero else suc p)) else None) (ne_eqb m n differ)
    ∙ ap (λ k. if has_number rest n then Some k else None) same

pub is_some-placed_number : (ns : List ℕ) (n : ℕ) → is_some (placed_number ns n) ≡ has_number ns n
is_some-placed_number ns n = each (has_number ns n) refl
  where
    each : (b : Bool) → has_number ns n ≡ b → is_some (placed_number ns n) ≡ has_number ns n
    each true e = ap (λ c. is_some (if c then Some (length ns - suc (place_of_number ns n)) else None)) e ∙ sym e
    each false e = ap (λ c. is_some (if c then Some (length ns - suc (place_of_number ns n)) else None)) e ∙ sym e

pub length-own_numbers : (count : ℕ) → length (own_numbers count) ≡ count
length-own_numbers zero = refl
length-own_numbers (suc count) = ap suc (length-own_numbers count)

pub own_inside : (count n : ℕ) → n < count → placed_number (own_numbers count) n ≡ Some n
own_inside zero n less = absurd (omega arith)
own_inside (suc count) n less = either (equal_or_not count n) (λ inside. own_inside count n inside)
  where
    either : (count ≡ n) ⊎ (count ≢ n) → (n < count → placed_number (own_numbers count) n ≡ Some n) → placed_number (own_numbers (suc count)) n ≡ Some n
    either (inl e) later = placed_number-here count n (own_numbers count) e ∙ ap Some (length-own_numbers count ∙ e)
    either (inr differ) later = placed_number-later count n (own_numbers count) differ ∙ later (below (cases_lt n count))
      where
        below : (n < count) ⊎ (count ≤ n) → n < count
        below (inl inside) = inside
        below (inr past) = absurd (differ (omega (arith, past, less)))

pub own_outside : (count n : ℕ) → count ≤ n → placed_number (own_numbers count) n ≡ None
own_outside zero n past = refl
own_outside (suc count) n past =
    let differ : count ≢ n = λ e. absurd (omega (arith, past, e)) in
    placed_number-later count n (own_numbers count) differ ∙ own_outside count n (omega (arith, past))

pub own_below : (count : ℕ) → HasBelow (own_numbers count) count
own_below count n less = sym (is_some-placed_number (own_numbers count) n) ∙ ap is_some (own_inside count n less)

pub own_not : (count n : ℕ) → count ≤ n → has_number (own_numbers count) n ≡ false
own_not count n past = sym (is_some-placed_number (own_numbers count) n) ∙ ap is_some (own_outside count n past)

pub own_different : (count : ℕ) → are_different (own_numbers count) ≡ true
own_different zero = refl
own_different (suc count) = ap₂ (λ b c. not b && c) (own_not count count (omega arith)) (own_different count)

read_as : (n : ℕ) (o : Option ℕ) → is_number n o ≡ true → o ≡ Some n
read_as n None e = absurd cc
read_as n (Some m) e = ap Some (sym (eqb-true n m e))

-- Arguments that are the variables of as many binders read as these.
own_read : (count : ℕ) (ts : Spine) → are_own count ts ≡ true → variables_of ts ≡ Some (own_numbers count)
own_read zero no_args e = refl
own_read zero (arg t ts) e = absurd cc
own_read (suc count) no_args e = absurd cc
own_read (suc count) (arg t ts) e =
    let both = and_parts (is_number count (reads t)) (are_own count ts) e in
    ap₂ joined_reading (read_as count (reads t) both.0) (own_read count ts both.1)

pub own_pattern : (count : ℕ) (ts : Spine) → are_own count ts ≡ true → Some (own_numbers count) ≡ pattern_of ts
own_pattern count ts e = sym (ap where_different (own_read count ts e) ∙ ap (λ b. if b then Some (own_numbers count) else None) (own_different count))

pub own_is : (count : ℕ) (ns : List ℕ) → own_numbers count ≡ ns → ns ≡ own_numbers (length ns)
own_is count ns e = sym e ∙ ap own_numbers (sym (length-own_numbers count) ∙ ap length e)
