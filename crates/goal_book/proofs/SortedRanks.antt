-- Rankings that were sorted are those of the ranked rules.
use Rattle.std.proofs.Common.{◌≡◌, ◌≢◌, ℕ, ◌<◌, false, List, [], ◌∷◌, length, get_or, map, filter, refl, sym, ap, ◌∙◌, subst, arith, ◌⊎◌, inl, inr}
use Rattle.std.specs.Prelude.{All, AllPairs, ℤ, pos, neg_ℤ, ◌<ℤ◌, nat_eq}
use Rattle.std.specs.List.Sorted.{IsPermutation, IsSortedByKey}
use Rattle.std.specs.declared.cmp.Ordering.{Ordering}
use Rattle.std.specs.declared.cmp.Ordering.TheVariants.{Less, Equal, Greater}
use Rattle.std.specs.Ordering.{is_lt, ordering_then, nat_cmp, int_cmp, MatchOrdering}
use Rattle.std.specs.Cmp.{IsTotalOrder, ranks, int_ranks, nat_cmp_total, int_cmp_total, on_total, then_total, nat_eq_equiv}
use Rattle.std.proofs.lemmas.Bool.Decides.{Decides-eqb}
use Rattle.std.proofs.lemmas.Int.{ints}
use Rattle.std.proofs.lemmas.List.Elements.{All-filter}
use Rattle.std.proofs.lemmas.List.Kept.{AllPairs-filter}
use Rattle.std.proofs.lemmas.List.Sorted.{sorted_far, ranks_by, IsPermutation-map, IsPermutation-sym, IsPermutation-trans, Contains-permutation, All-permutation}
use Rattle.std.proofs.lemmas.Map.Keys.{IsDistinct-IsPermutation}
use Rattle.std.proofs.lemmas.Map.Made.{AllPairs-from_IsDistinct, IsDistinct-from_AllPairs}
use Rattle.rule_sets.specs.Books.{Book}
use Rattle.alternatives.specs.Rules.{LfRule}
use Rattle.alternatives.specs.Alternatives.{ranked}
use Rattle.goal_book.specs.declared.ranking.Ranking.{Ranking}
use Rattle.goal_book.specs.Rules.{rules_of}
use Rattle.goal_book.specs.Choices.{may_be_chosen}
use Rattle.goal_book.specs.Queries.{AreRules}
use Rattle.goal_book.specs.Rankings.{ranking_of, key_of}
use Rattle.goal_book.proofs.OneOrder.{AllPairs-map, AllPairs-from_map, lists_are_one}
use Rattle.goal_book.proofs.Ranks.{RanksBefore, Differ, ranks_once, ranked_moves, ranked_rises}
use Rattle.goal_book.proofs.RuleLists.{IsRuleIn, rules_are_in, rules_differ, rules_of_numbers, numbers_within}

abbrev pub key_cmp : ℤ × ℕ → ℤ × ℕ → Ordering
key_cmp x y = ordering_then (int_cmp x.0 y.0) (nat_cmp x.1 y.1)

key_total : IsTotalOrder key_cmp
key_total = then_total (on_total (λ (t : ℤ × ℕ). t.0) int_cmp_total) (on_total (λ (t : ℤ × ℕ). t.1) nat_cmp_total)

then_numbers : (r : Ordering) (m n : ℕ) → MatchOrdering r (n < m) (n ≡ m) (m < n) → is_lt r ≡ false → m ≢ n → m < n
then_numbers Less m n k h ne = absurd cc
then_numbers Equal m n k h ne = absurd (ne (sym k))
then_numbers Greater m n k h ne = k

weighed : (r : Ordering) (p q : ℤ) (m n : ℕ) → MatchOrdering r (q <ℤ p) (q ≡ p) (p <ℤ q) → is_lt (ordering_then r (nat_cmp n m)) ≡ false → m ≢ n → (p <ℤ q) ⊎ ((p ≡ q) × (m < n))
weighed Less p q m n k h ne = absurd cc
weighed Equal p q m n k h ne = inr (sym k, then_numbers (nat_cmp n m) m n (ranks n m) h ne)
weighed Greater p q m n k h ne = inl k

turned_less : (x y : ℕ) → neg_ℤ (pos x) <ℤ neg_ℤ (pos y) → y < x
turned_less x y less = omega (arith, ints)

turned_same : (x y : ℕ) → neg_ℤ (pos x) ≡ neg_ℤ (pos y) → x ≡ y
turned_same x y e = omega (arith, ints)

-- Where the key of one ranking is not below that of another, the other comes first.
by_keys : (a b : Ranking) → is_lt (key_cmp (key_of b) (key_of a)) ≡ false → a.number ≢ b.number → RanksBefore a b
by_keys a b h differ =
    elim (weighed (int_cmp (neg_ℤ (pos b.percent)) (neg_ℤ (pos a.percent))) (neg_ℤ (pos a.percent)) (neg_ℤ (pos b.percent)) a.number b.number
    (int_ranks (neg_ℤ (pos b.percent)) (neg_ℤ (pos a.percent))) h differ) [
      | inl less ↦ inl (turned_less a.percent b.percent less)
      | inr (same, less) ↦ inr (turned_same a.percent b.percent same, less)
    ]

abbrev numbers_of : List Ranking → List ℕ
numbers_of rs = map (λ ranking. ranking.number) rs

abbrev Apart : Ranking → Ranking → Type 0
Apart a b = a.number ≢ b.number

apart_moved : (xs ys : List Ranking) → IsPermutation xs ys → AllPairs Apart xs → AllPairs Apart ys
apart_moved xs ys moved apart =
    AllPairs-from_map (λ (r : Ranking). r.number) (λ m n. m ≢ n) ys
    (AllPairs-from_IsDistinct Decides-eqb (numbers_of ys)
    (IsDistinct-IsPermutation nat_eq nat_eq_equiv.symm (numbers_of xs) (numbers_of ys) (IsPermutation-map (λ (r : Ranking). r.number) xs ys moved)
    (IsDistinct-from_AllPairs Decides-eqb (numbers_of xs) (AllPairs-map (λ (r : Ranking). r.number) (λ m n. m ≢ n) xs apart))))

sorted_rises : (ys : List Ranking) → IsSortedByKey key_of key_cmp ys → AllPairs Apart ys → AllPairs RanksBefore ys
sorted_rises ys sorted apart i j d less within =
    by_keys (get_or ys i d) (get_or ys j d) (sorted_far (λ x y. is_lt (key_cmp (key_of x) (key_of y))) (ranks_by key_total key_of) ys sorted i j d (omega arith) within) (apart i j d less within)

module _ (book : Book) (numbers : List ℕ) (are : AreRules book numbers) (xs ys : List Ranking) (xs_are : xs ≡ map ranking_of (filter may_be_chosen (rules_of book numbers)))
    (moved : IsPermutation xs ys) (sorted : IsSortedByKey key_of key_cmp ys) (found : List ℕ) (found_are : found ≡ numbers_of ys) where
  abbrev chosen : List LfRule
  chosen = filter may_be_chosen (rules_of book numbers)

  chosen_differ : AllPairs Differ chosen
  chosen_differ = AllPairs-filter Differ may_be_chosen (rules_of book numbers) (rules_differ book numbers are.differ)

  from_chosen : IsPermutation (map ranking_of chosen) ys
  from_chosen = let P : List Ranking → Type 0 = λ zs. IsPermutation zs ys in subst P xs_are moved

  to_ranked : IsPermutation ys (map ranking_of (ranked chosen))
  to_ranked =
      IsPermutation-trans ys (map ranking_of chosen) (map ranking_of (ranked chosen)) (IsPermutation-sym (map ranking_of chosen) ys from_chosen)
      (IsPermutation-map ranking_of chosen (ranked chosen) (ranked_moves chosen))

  ys_are : ys ≡ map ranking_of (ranked chosen)
  ys_are =
      lists_are_one Ranking RanksBefore ranks_once ys (map ranking_of (ranked chosen))
      (sorted_rises ys sorted (apart_moved (map ranking_of chosen) ys from_chosen (AllPairs-map ranking_of Apart chosen chosen_differ)))
      (AllPairs-map ranking_of RanksBefore (ranked chosen) (ranked_rises chosen chosen_differ))
      (λ z has. Contains-permutation ys (map ranking_of (ranked chosen)) z to_ranked has)
      (λ z has. Contains-permutation (map ranking_of (ranked chosen)) ys z (IsPermutation-sym ys (map ranking_of (ranked chosen)) to_ranked) has)

  numbers_ranked : (rs : List LfRule) → numbers_of (map ranking_of rs) ≡ map (λ r. r.number) rs
  numbers_ranked [] = refl
  numbers_ranked (r ∷ rest) = ap (λ ns. r.number ∷ ns) (numbers_ranked rest)

  found_ranked : found ≡ map (λ r. r.number) (ranked chosen)
  found_ranked = found_are ∙ ap numbers_of ys_are ∙ numbers_ranked (ranked chosen)

  ranked_in : All (IsRuleIn book) (ranked chosen)
  ranked_in = All-permutation (IsRuleIn book) chosen (ranked chosen) (ranked_moves chosen) (All-filter may_be_chosen (IsRuleIn book) (rules_of book numbers) (rules_are_in book numbers))

  pub ranked_are : rules_of book found ≡ ranked chosen
  ranked_are = ap (rules_of book) found_ranked ∙ rules_of_numbers book (ranked chosen) ranked_in

  pub ranked_within : All (λ number. number < length book.rules) found
  ranked_within = let P : List ℕ → Type 0 = All (λ number. number < length book.rules) in subst P (sym found_ranked) (numbers_within book (ranked chosen) ranked_in)
