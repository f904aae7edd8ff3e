-- The numbers of an order differ, and so do those of its rules.
use Rattle.std.proofs.Common.{◌≡◌, ◌≢◌, inl, inr, ℕ, Option, Some, None, List, [], ◌∷◌, get_or, All, refl, sym, ap, ◌∙◌, subst, arith}
use Rattle.std.specs.Prelude.{AllPairs, slice_get, option_map}
use Rattle.std.specs.List.{cons_option}
use Rattle.std.proofs.lemmas.Int.{ints}
use Rattle.std.proofs.lemmas.List.Elements.{All-nil, All-cons, All-head, All-tail}
use Rattle.std.proofs.lemmas.List.Kept.{AllPairs-cons}
use Rattle.std.proofs.lemmas.Option.{slice_get-get_or}
use Rattle.lf_definitions.proofs.Options.{Some-Some}
use Rattle.head_laws.proofs.Numbers.{AllPairs-head, AllPairs-tail}
use Rattle.rule_sets.specs.declared.rule.Phase.{Phase}
use Rattle.rule_sets.specs.declared.rule.Rule.{Rule}
use Rattle.rule_sets.specs.Books.{Listed, Book}
use Rattle.rule_sets.specs.Orders.{IsBefore, norm_before_safe, norm_before_unsafe, safe_before_unsafe, lower_norm, lower_safe, higher_unsafe, IsTriedBefore, IsOrder}
use Rattle.alternatives.specs.Rules.{LfRule}
use Rattle.goal_book.specs.Rules.{numbered, rule_at, rules_of}

not_before_itself : (a b : Phase) → IsBefore a b → a ≡ b → ⊥
not_before_itself _ _ (norm_before_safe p q) e = cc
not_before_itself _ _ (norm_before_unsafe p n) e = cc
not_before_itself _ _ (safe_before_unsafe p n) e = cc
not_before_itself _ _ (lower_norm p q less) e = let same : p ≡ q = cc in omega (arith, ints)
not_before_itself _ _ (lower_safe p q less) e = let same : p ≡ q = cc in omega (arith, ints)
not_before_itself _ _ (higher_unsafe m n less) e = let same : m ≡ n = cc in omega arith

not_tried_before_itself : (book : Book) (m n : ℕ) → IsTriedBefore book m n → m ≢ n
not_tried_before_itself book m n h same =
    elim h.before [
      | inl less ↦ not_before_itself h.rule.phase h.other.phase less (ap (λ (r : Rule). r.phase) (Some-Some (sym h.rule_is ∙ ap (slice_get book.rules) same ∙ h.other_is)))
      | inr (e, less) ↦ omega arith
    ]

numbers_differ : (book : Book) (sets : List (List ℕ)) (numbers : List ℕ) → IsOrder book sets numbers → AllPairs (λ m n. m ≢ n) numbers
numbers_differ book sets numbers order = λ i j d less within.
    not_tried_before_itself book (get_or numbers i d) (get_or numbers j d)
    (order.ordered i j (get_or numbers i d) (get_or numbers j d) less (slice_get-get_or numbers i d (omega arith)) (slice_get-get_or numbers j d within))

abbrev pub Differ : LfRule → LfRule → Type 0
Differ rule other = rule.number ≢ other.number

-- A rule that is looked up has the number under which it is.
number_of : (lists : List Listed) (m : ℕ) (o : Option Rule) (r : LfRule) → option_map (numbered lists m) o ≡ Some r → m ≡ r.number
number_of lists m None r e = absurd cc
number_of lists m (Some rule) r e = ap (λ (x : LfRule). x.number) (Some-Some e)

module _ (book : Book) where
  differ_from : (m : ℕ) (numbers : List ℕ) → All (λ n. m ≢ n) numbers → All (λ (r : LfRule). m ≢ r.number) (rules_of book numbers)
  differ_from m [] all = All-nil (λ (r : LfRule). m ≢ r.number)
  differ_from m (n ∷ rest) all = step (rule_at book n) refl (differ_from m rest (All-tail (λ k. m ≢ k) n rest all))
    where
      step : (o : Option LfRule) → rule_at book n ≡ o → All (λ (r : LfRule). m ≢ r.number) (rules_of book rest) → All (λ (r : LfRule). m ≢ r.number) (cons_option o (rules_of book rest))
      step None e later = later
      step (Some r) e later =
          All-cons (λ (x : LfRule). m ≢ x.number) r (rules_of book rest)
          (λ same. All-head (λ k. m ≢ k) n rest all (same ∙ sym (number_of book.lists n (slice_get book.rules n) r e))) later

  rules_differ : (numbers : List ℕ) → AllPairs (λ m n. m ≢ n) numbers → AllPairs Differ (rules_of book numbers)
  rules_differ [] differ = λ i j d less within. absurd (omega arith)
  rules_differ (m ∷ rest) differ = step (rule_at book m) refl (rules_differ rest (AllPairs-tail (λ k n. k ≢ n) m rest differ))
    where
      step : (o : Option LfRule) → rule_at book m ≡ o → AllPairs Differ (rules_of book rest) → AllPairs Differ (cons_option o (rules_of book rest))
      step None e later = later
      step (Some r) e later =
          let P : ℕ → Type 0 = λ k. All (λ (x : LfRule). k ≢ x.number) (rules_of book rest) in
          AllPairs-cons Differ r (rules_of book rest)
          (subst P (number_of book.lists m (slice_get book.rules m) r e) (differ_from m rest (AllPairs-head (λ k n. k ≢ n) m rest differ))) later

pub rules_of_an_order_differ : (book : Book) (sets : List (List ℕ)) (numbers : List ℕ) → IsOrder book sets numbers → AllPairs Differ (rules_of book numbers)
rules_of_an_order_differ book sets numbers order = rules_differ book numbers (numbers_differ book sets numbers order)
