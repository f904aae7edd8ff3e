-- The decimal digits of any number, however great.
use Rattle.std.proofs.Common.{◌≡◌, ℕ, zero, suc, ◌+◌, ◌/◌, ◌%◌, ◌<◌, ◌≤◌, List, [], ◌∷◌, Bool, true, false, length, arith}
use Rattle.std.specs.Prelude.{decimal, ◌==◌, if◌then◌else◌}
use Rattle.std.specs.Fmt.{digit_glyph, digits_onto, digits}
use Rattle.std.specs.List.{AllByRecursion}
use Rattle.std.proofs.lemmas.Bool.Decides.{nat_tests}
use Rattle.lex_text.specs.Characters.{IsDigit}

either : (P : List ℕ → Type 0) (b : Bool) (xs ys : List ℕ) → P xs → P ys → P (if b then xs else ys)
either P true xs ys h g = h
either P false xs ys h g = g

low_glyph : (digit : ℕ) → digit < 10 → digit_glyph false digit ≡ 48 + digit
low_glyph digit low = grind (arith, nat_tests)

glyph_is_digit : (n : ℕ) → IsDigit (digit_glyph false (n % 10))
glyph_is_digit n = (omega (arith, low_glyph (n % 10) (omega arith)), omega (arith, low_glyph (n % 10) (omega arith)))

onto_digits : (k n : ℕ) (after : List ℕ) → AllByRecursion IsDigit after → AllByRecursion IsDigit (digits_onto k 10 false n after)
onto_digits zero n after all = all
onto_digits (suc k) n after all =
    let here = digit_glyph false (n % 10) ∷ after in
    either (AllByRecursion IsDigit) (n / 10 == 0) here (digits_onto k 10 false (n / 10) here) (glyph_is_digit n, all) (onto_digits k (n / 10) here (glyph_is_digit n, all))

onto_few : (k n : ℕ) (after : List ℕ) → length (digits_onto k 10 false n after) ≤ k + length after
onto_few zero n after = omega arith
onto_few (suc k) n after =
    let here = digit_glyph false (n % 10) ∷ after in
    either (λ l. length l ≤ suc k + length after) (n / 10 == 0) here (digits_onto k 10 false (n / 10) here) (omega arith) (omega (arith, onto_few k (n / 10) here))

pub decimal_digits : (n : ℕ) → AllByRecursion IsDigit (decimal n)
unfolding digits
decimal_digits n = onto_digits 64 n [] tt

pub decimal_few : (n : ℕ) → length (decimal n) ≤ 64
unfolding digits
decimal_few n = onto_few 64 n []
