-- Ranked rules: those that were there, in the order of their ranks.
use Rattle.std.proofs.Common.{◌≡◌, ◌≢◌, ℕ, ◌<◌, ◌≤◌, Bool, true, false, List, [], ◌∷◌, filter, refl, sym, ◌∙◌, arith, ◌⊎◌, inl, inr}
use Rattle.std.specs.Prelude.{All, AllPairs, ltb, nat_eq, ◌||◌, ◌&&◌, if◌then◌else◌}
use Rattle.std.specs.List.Sorted.{IsPermutation}
use Rattle.std.proofs.lemmas.Bool.{ltb-true, ltb-false, eqb-true, eqb-false}
use Rattle.std.proofs.lemmas.List.Elements.{All-nil, All-cons, All-head, All-tail, All-weaker}
use Rattle.std.proofs.lemmas.List.Kept.{AllPairs-cons, AllPairs-filter}
use Rattle.std.proofs.lemmas.List.Sorted.{IsPermutation-refl, IsPermutation-sym, IsPermutation-trans, IsPermutation-cons, IsPermutation-middle, All-permutation, Contains-permutation}
use Rattle.alternatives.specs.Rules.{LfRule}
use Rattle.alternatives.specs.Alternatives.{percent_of, ranks_before, ranked_with, ranked}
use Rattle.goal_book.specs.declared.ranking.Ranking.{Ranking}
use Rattle.goal_book.specs.Rankings.{ranking_of}
use Rattle.goal_book.proofs.OneOrder.{AllPairs-nil, AllPairs-head, AllPairs-tail, Contains-filter, Contains-from_filter, lists_are_one}

-- A ranking comes before another by a higher percentage, or by a lower number.
abbrev pub RanksBefore : Ranking → Ranking → Type 0
RanksBefore a b = (b.percent < a.percent) ⊎ ((a.percent ≡ b.percent) × (a.number < b.number))

abbrev pub Outranks : LfRule → LfRule → Type 0
Outranks a b = RanksBefore (ranking_of a) (ranking_of b)

abbrev pub Differ : LfRule → LfRule → Type 0
Differ a b = a.number ≢ b.number

pub ranks_once : (a b : Ranking) → RanksBefore a b → RanksBefore b a → ⊥
ranks_once a b h k =
    elim h [
      | inl p ↦ elim k [ inl q ↦ omega arith | inr (f, q) ↦ omega arith ]
      | inr (e, p) ↦ elim k [ inl q ↦ omega arith | inr (f, q) ↦ omega arith ]
    ]

once : (a b : LfRule) → Outranks a b → Outranks b a → ⊥
once a b h k = ranks_once (ranking_of a) (ranking_of b) h k

over_two : (a b c : LfRule) → Outranks a b → Outranks b c → Outranks a c
over_two a b c h k =
    elim h [
      | inl p ↦ elim k [ inl q ↦ inl (omega arith) | inr (f, q) ↦ inl (omega arith) ]
      | inr (e, p) ↦ elim k [ inl q ↦ inl (omega arith) | inr (f, q) ↦ inr (e ∙ f, omega arith) ]
    ]

-- the test of ranks
tested : (p q m n : ℕ) → ltb q p || (nat_eq q p && ltb m n) ≡ true → (q < p) ⊎ ((p ≡ q) × (m < n))
tested p q m n h = by_percent (ltb q p) refl h
  where
    by_number : (c d : Bool) → nat_eq q p ≡ c → ltb m n ≡ d → c && d ≡ true → (p ≡ q) × (m < n)
    by_number true true e f h = (sym (eqb-true q p e), ltb-true m n f)
    by_number true false e f h = absurd cc
    by_number false d e f h = absurd cc

    by_percent : (b : Bool) → ltb q p ≡ b → b || (nat_eq q p && ltb m n) ≡ true → (q < p) ⊎ ((p ≡ q) × (m < n))
    by_percent true e h = inl (ltb-true q p e)
    by_percent false e h = inr (by_number (nat_eq q p) (ltb m n) refl refl h)

refuted : (p q m n : ℕ) → ltb q p || (nat_eq q p && ltb m n) ≡ false → m ≢ n → (p < q) ⊎ ((q ≡ p) × (n < m))
refuted p q m n h differ = by_percent (ltb q p) refl h
  where
    by_number : (c d : Bool) → nat_eq q p ≡ c → ltb m n ≡ d → c && d ≡ false → p ≤ q → (p < q) ⊎ ((q ≡ p) × (n < m))
    by_number true true e f h le = absurd cc
    by_number true false e f h le = let above : n ≤ m = ltb-false m n f in inr (eqb-true q p e, omega (arith, differ))
    by_number false d e f h le = let apart : q ≢ p = eqb-false q p e in inl (omega (arith, apart))

    by_percent : (b : Bool) → ltb q p ≡ b → b || (nat_eq q p && ltb m n) ≡ false → (p < q) ⊎ ((q ≡ p) × (n < m))
    by_percent true e h = absurd cc
    by_percent false e h = by_number (nat_eq q p) (ltb m n) refl refl h (ltb-false q p e)

outranks : (a b : LfRule) → ranks_before a b ≡ true → Outranks a b
outranks a b e = tested (percent_of a.phase) (percent_of b.phase) a.number b.number e

outranked : (a b : LfRule) → ranks_before a b ≡ false → a.number ≢ b.number → Outranks b a
outranked a b e differ = refuted (percent_of a.phase) (percent_of b.phase) a.number b.number e differ

-- Ranking moves rules.

ranked_with_moves : (r : LfRule) (xs : List LfRule) → IsPermutation (r ∷ xs) (ranked_with r xs)
ranked_with_moves r [] = IsPermutation-refl (r ∷ [])
ranked_with_moves r (other ∷ rest) = step (ranks_before other r) (ranked_with_moves r rest)
  where
    step : (b : Bool) → IsPermutation (r ∷ rest) (ranked_with r rest) → IsPermutation (r ∷ other ∷ rest) (if b then other ∷ ranked_with r rest else r ∷ other ∷ rest)
    step true moves =
        IsPermutation-trans (r ∷ other ∷ rest) (other ∷ r ∷ rest) (other ∷ ranked_with r rest) (IsPermutation-middle (r ∷ []) other rest) (IsPermutation-cons other (r ∷ rest) (ranked_with r rest) moves)
    step false moves = IsPermutation-refl (r ∷ other ∷ rest)

pub ranked_moves : (xs : List LfRule) → IsPermutation xs (ranked xs)
ranked_moves [] = IsPermutation-refl []
ranked_moves (r ∷ rest) =
    IsPermutation-trans (r ∷ rest) (r ∷ ranked rest) (ranked_with r (ranked rest)) (IsPermutation-cons r rest (ranked rest) (ranked_moves rest)) (ranked_with_moves r (ranked rest))

-- Ranked rules are in order.

ranked_with_rises : (r : LfRule) (xs : List LfRule) → All (Differ r) xs → AllPairs Outranks xs → AllPairs Outranks (ranked_with r xs)
ranked_with_rises r [] differ rise = AllPairs-cons Outranks r [] (All-nil (Outranks r)) (AllPairs-nil Outranks)
ranked_with_rises r (other ∷ rest) differ rise =
    step (ranks_before other r) refl (ranked_with_rises r rest (All-tail (Differ r) other rest differ) (AllPairs-tail Outranks other rest rise))
  where
    apart : r.number ≢ other.number
    apart = All-head (Differ r) other rest differ

    step : (b : Bool) → ranks_before other r ≡ b → AllPairs Outranks (ranked_with r rest) → AllPairs Outranks (if b then other ∷ ranked_with r rest else r ∷ other ∷ rest)
    step true e later =
        AllPairs-cons Outranks other (ranked_with r rest)
        (All-permutation (Outranks other) (r ∷ rest) (ranked_with r rest) (ranked_with_moves r rest)
        (All-cons (Outranks other) r rest (outranks other r e) (AllPairs-head Outranks other rest rise))) later
    step false e later =
        let first : Outranks r other = outranked other r e (λ same. apart (sym same)) in
        AllPairs-cons Outranks r (other ∷ rest)
        (All-cons (Outranks r) other rest first (All-weaker (Outranks other) (Outranks r) (λ x below. over_two r other x first below) rest (AllPairs-head Outranks other rest rise))) rise

pub ranked_rises : (xs : List LfRule) → AllPairs Differ xs → AllPairs Outranks (ranked xs)
ranked_rises [] differ = AllPairs-nil Outranks
ranked_rises (r ∷ rest) differ =
    ranked_with_rises r (ranked rest) (All-permutation (Differ r) rest (ranked rest) (ranked_moves rest) (AllPairs-head Differ r rest differ)) (ranked_rises rest (AllPairs-tail Differ r rest differ))

-- Rules may be left out before or after they are ranked.
pub ranked-filter : (p : LfRule → Bool) (xs : List LfRule) → AllPairs Differ xs → ranked (filter p xs) ≡ filter p (ranked xs)
ranked-filter p xs differ =
    lists_are_one LfRule Outranks once (ranked (filter p xs)) (filter p (ranked xs))
    (ranked_rises (filter p xs) (AllPairs-filter Differ p xs differ)) (AllPairs-filter Outranks p (ranked xs) (ranked_rises xs differ))
    (λ z has.
    let here = Contains-from_filter p xs z (Contains-permutation (ranked (filter p xs)) (filter p xs) z (IsPermutation-sym (filter p xs) (ranked (filter p xs)) (ranked_moves (filter p xs))) has) in
    Contains-filter p (ranked xs) z (Contains-permutation xs (ranked xs) z (ranked_moves xs) here.0) here.1)
    (λ z has.
    let here = Contains-from_filter p (ranked xs) z has in
    Contains-permutation (filter p xs) (ranked (filter p xs)) z (ranked_moves (filter p xs))
    (Contains-filter p xs z (Contains-permutation (ranked xs) xs z (IsPermutation-sym xs (ranked xs) (ranked_moves xs)) here.0) here.1))
