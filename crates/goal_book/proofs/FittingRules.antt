-- Rules that don't fit the first goal find nothing, so they may be left out.
use Rattle.std.proofs.Common.{◌≡◌, ◌≢◌, ℕ, ◌<◌, Bool, true, false, cond, List, [], ◌∷◌, ◌++◌, map, filter, length, Option, Some, None, refl, sym, ap, ◌∙◌, arith, subst, inl, inr}
use Rattle.std.specs.Prelude.{All, AllPairs, Contains, slice_get, flat_map, get_or}
use Rattle.std.proofs.lemmas.Int.{ints}
use Rattle.std.proofs.lemmas.List.Elements.{All-head, All-tail, All-filter, All-weaker, All-contains_itself}
use Rattle.std.proofs.lemmas.List.Kept.{AllPairs-filter}
use Rattle.std.proofs.lemmas.List.Sorted.{All-permutation}
use Rattle.std.proofs.lemmas.Option.{slice_get_within, slice_get-get_or}
use Rattle.head_laws.proofs.Numbers.{Contains-here}
use Rattle.lf_definitions.proofs.Options.{Some-Some}
use Rattle.lf_definitions.specs.Typing.{LfGoal}
use Rattle.lf_definitions.specs.Signatures.{LfSignature}
use Rattle.lf_definitions.specs.GoalLists.{LfGoals, all_goals, first_goal}
use Rattle.applications.specs.Methods.{Method}
use Rattle.applications.specs.Applications.{applications_to, at_first}
use Rattle.rule_sets.specs.declared.rule.Phase.{Phase}
use Rattle.rule_sets.specs.Books.{Book}
use Rattle.rule_sets.specs.Refusals.{IsOver}
use Rattle.rule_sets.specs.Orders.{IsBefore, norm_before_safe, norm_before_unsafe, safe_before_unsafe, lower_norm, lower_safe, higher_unsafe, IsTriedBefore, IsOrder}
use Rattle.rule_index.specs.Keys.{KeyedRule, rule_key, is_compatible, keyed_rules}
use Rattle.index_laws.specs.Laws.{RulesWithApplicationsAreCompatible}
use Rattle.alternatives.specs.Rules.{LfRule, found_by}
use Rattle.alternatives.specs.Alternatives.{ranked}
use Rattle.goal_book.specs.Rules.{rules_of}
use Rattle.goal_book.specs.GoalBooks.{fitting_for}
use Rattle.goal_book.specs.Choices.{choice_of, choices_by, may_be_chosen}
use Rattle.goal_book.specs.Queries.{AreRules}
use Rattle.goal_book.proofs.Ranks.{Differ, ranked_moves, ranked-filter}
use Rattle.goal_book.proofs.RuleLists.{IsRuleIn, rules_are_in, rules_differ, rules_of-filter}

-- The fitting numbers are some of the numbers.

abbrev pub fits : LfSignature → Book → Option LfGoal → ℕ → Bool
fits sig book None m = false
fits sig book (Some g) m = is_compatible (rule_key sig (slice_get book.rules m)) g.target

none_pass : {X : Type 0} (xs : List X) → [] ≡ filter (λ (x : X). false) xs
none_pass [] = refl
none_pass (x ∷ xs) = none_pass xs

pub fitting_is : (sig : LfSignature) (book : Book) (o : Option LfGoal) (numbers : List ℕ) → fitting_for sig book numbers o ≡ filter (fits sig book o) numbers
fitting_is sig book None numbers = none_pass numbers
fitting_is sig book (Some g) [] = refl
fitting_is sig book (Some g) (m ∷ rest) =
    step (fits sig book (Some g) m) (filter (λ (rule : KeyedRule). is_compatible rule.key g.target) (keyed_rules sig book rest)) (fitting_is sig book (Some g) rest)
  where
    step : (b : Bool) (kept : List KeyedRule) → map (λ (rule : KeyedRule). rule.number) kept ≡ filter (fits sig book (Some g)) rest →
        map (λ (rule : KeyedRule). rule.number) (cond b (record { key = rule_key sig (slice_get book.rules m); number = m } ∷ kept) kept) ≡ cond b (m ∷ filter (fits sig book (Some g)) rest) (filter (fits sig book (Some g)) rest)
    step true kept e = ap (λ ns. m ∷ ns) e
    step false kept e = e

-- Numbers in an order are those of rules, and differ.

not_before_itself : (a b : Phase) → IsBefore a b → a ≡ b → ⊥
not_before_itself _ _ (norm_before_safe p q) e = cc
not_before_itself _ _ (norm_before_unsafe p n) e = cc
not_before_itself _ _ (safe_before_unsafe p n) e = cc
not_before_itself _ _ (lower_norm p q less) e = let same : p ≡ q = cc in omega (arith, ints)
not_before_itself _ _ (lower_safe p q less) e = let same : p ≡ q = cc in omega (arith, ints)
not_before_itself _ _ (higher_unsafe m n less) e = let same : m ≡ n = cc in omega arith

not_tried_before_itself : (book : Book) (m n : ℕ) → IsTriedBefore book m n → m ≡ n → ⊥
not_tried_before_itself book m n h same =
    elim h.before [
      | inl less ↦ not_before_itself h.rule.phase h.other.phase less
          (ap (λ x. x.phase) (Some-Some (sym h.rule_is ∙ ap (slice_get book.rules) same ∙ h.other_is)))
      | inr (e, less) ↦ omega arith
    ]

pub order_of_rules : (book : Book) (sets : List (List ℕ)) (numbers : List ℕ) → IsOrder book sets numbers → AreRules book numbers
order_of_rules book sets numbers order = record {
  within = All-weaker (Contains numbers) (λ number. number < length book.rules)
      (λ number has. let is = (order.active number).0 has in slice_get_within book.rules number is.rule is.rule_is) numbers (All-contains_itself numbers);
  differ = λ i j d less within.
      not_tried_before_itself book (get_or numbers i d) (get_or numbers j d)
      (order.ordered i j (get_or numbers i d) (get_or numbers j d) less (slice_get-get_or numbers i d (omega arith)) (slice_get-get_or numbers j d within));
}

pub fitting_rules : (sig : LfSignature) (book : Book) (o : Option LfGoal) (numbers : List ℕ) → AreRules book numbers → AreRules book (fitting_for sig book numbers o)
fitting_rules sig book o numbers are =
    let P : List ℕ → Type 0 = AreRules book in
    subst P (sym (fitting_is sig book o numbers)) (record {
      within = All-filter (fits sig book o) (λ number. number < length book.rules) numbers are.within;
      differ = AllPairs-filter (λ number other. number ≢ other) (fits sig book o) numbers are.differ;
    })

-- What finds nothing may be left out.

empty : {X : Type 0} (xs : List X) → ((x : X) → Contains xs x → ⊥) → xs ≡ []
empty [] none = refl
empty (x ∷ xs) none = absurd (none x (Contains-here x xs))

flat_map-passing : {A : Type 0} (f : LfRule → List A) (p : LfRule → Bool) (xs : List LfRule) → All (λ r. p r ≡ false → f r ≡ []) xs → flat_map f (filter p xs) ≡ flat_map f xs
flat_map-passing f p [] all = refl
flat_map-passing {A = A} f p (x ∷ xs) all = step (p x) refl (flat_map-passing f p xs (All-tail (λ (r : LfRule). p r ≡ false → f r ≡ []) x xs all))
  where
    step : (b : Bool) → p x ≡ b → flat_map f (filter p xs) ≡ flat_map f xs → flat_map f (cond b (x ∷ filter p xs) (filter p xs)) ≡ f x ++ flat_map f xs
    step true e rest = ap (λ ys. f x ++ ys) rest
    step false e rest = rest ∙ ap (λ ys. ys ++ flat_map f xs) (sym (All-head (λ (r : LfRule). p r ≡ false → f r ≡ []) x xs all e))

filters : {X : Type 0} (p q : X → Bool) (xs : List X) → filter p (filter q xs) ≡ filter q (filter p xs)
filters p q [] = refl
filters {X = X} p q (x ∷ xs) = step (p x) (q x) refl refl (filters p q xs)
  where
    step : (b c : Bool) → p x ≡ b → q x ≡ c → filter p (filter q xs) ≡ filter q (filter p xs) →
        filter p (cond c (x ∷ filter q xs) (filter q xs)) ≡ filter q (cond b (x ∷ filter p xs) (filter p xs))
    step true true e f rest =
        ap (λ v. cond v (x ∷ filter p (filter q xs)) (filter p (filter q xs))) e ∙ ap (λ ys. x ∷ ys) rest ∙ sym (ap (λ v. cond v (x ∷ filter q (filter p xs)) (filter q (filter p xs))) f)
    step true false e f rest = rest ∙ sym (ap (λ v. cond v (x ∷ filter q (filter p xs)) (filter q (filter p xs))) f)
    step false true e f rest = ap (λ v. cond v (x ∷ filter p (filter q xs)) (filter p (filter q xs))) e ∙ rest
    step false false e f rest = rest

module _ (sig : LfSignature) (book : Book) (over : IsOver sig book) (law : RulesWithApplicationsAreCompatible) (n : ℕ) (list : LfGoals) where
  abbrev fit : LfRule → Bool
  fit r = fits sig book (first_goal list) r.number

  nothing_at : (o : Option LfGoal) (r : LfRule) → IsRuleIn book r → fits sig book o r.number ≡ false → at_first sig r.number r.method n (all_goals list) o ≡ []
  nothing_at None r is unfit = refl
  nothing_at (Some g) r is unfit =
      empty (applications_to sig r.number r.method n (all_goals list) g)
      (λ a has.
      let P : Method → Type 0 = λ m. Contains (applications_to sig r.number m n (all_goals list) g) a in
      let fit : is_compatible (rule_key sig (slice_get book.rules r.number)) g.target ≡ true =
      law sig book over r.number is.rule is.rule_is n (all_goals list) g a (subst P (ap (λ (x : LfRule). x.method) is.same) has) in
      cc)

  finds_nothing : (r : LfRule) → IsRuleIn book r → fit r ≡ false → found_by sig n list r ≡ []
  finds_nothing r is unfit = nothing_at (first_goal list) r is unfit

  pub first_among_fitting : (tried : LfRule → Bool) (numbers : List ℕ) →
      flat_map (found_by sig n list) (filter tried (rules_of book (fitting_for sig book numbers (first_goal list)))) ≡ flat_map (found_by sig n list) (filter tried (rules_of book numbers))
  first_among_fitting tried numbers =
      ap (λ ms. flat_map (found_by sig n list) (filter tried (rules_of book ms))) (fitting_is sig book (first_goal list) numbers)
      ∙ ap (λ rs. flat_map (found_by sig n list) (filter tried rs)) (rules_of-filter book (fits sig book (first_goal list)) numbers)
      ∙ ap (flat_map (found_by sig n list)) (filters tried fit (rules_of book numbers))
      ∙ flat_map-passing (found_by sig n list) fit (filter tried (rules_of book numbers))
      (All-filter tried (λ (r : LfRule). fit r ≡ false → found_by sig n list r ≡ []) (rules_of book numbers)
      (All-weaker (IsRuleIn book) (λ (r : LfRule). fit r ≡ false → found_by sig n list r ≡ []) finds_nothing (rules_of book numbers) (rules_are_in book numbers)))

  no_choices : (r : LfRule) → IsRuleIn book r → fit r ≡ false → choices_by sig n list r ≡ []
  no_choices r is unfit = ap (map (choice_of r.phase)) (finds_nothing r is unfit)

  pub choices_among_fitting : (numbers : List ℕ) → AllPairs (λ m k. m ≢ k) numbers →
      flat_map (choices_by sig n list) (ranked (filter may_be_chosen (rules_of book (fitting_for sig book numbers (first_goal list)))))
      ≡ flat_map (choices_by sig n list) (ranked (filter may_be_chosen (rules_of book numbers)))
  choices_among_fitting numbers differ =
      let all = rules_of book numbers in
      let chosen = filter may_be_chosen all in
      ap (λ ms. flat_map (choices_by sig n list) (ranked (filter may_be_chosen (rules_of book ms)))) (fitting_is sig book (first_goal list) numbers)
      ∙ ap (λ rs. flat_map (choices_by sig n list) (ranked (filter may_be_chosen rs))) (rules_of-filter book (fits sig book (first_goal list)) numbers)
      ∙ ap (λ rs. flat_map (choices_by sig n list) (ranked rs)) (filters may_be_chosen fit all)
      ∙ ap (flat_map (choices_by sig n list)) (ranked-filter fit chosen (AllPairs-filter Differ may_be_chosen all (rules_differ book numbers differ)))
      ∙ flat_map-passing (choices_by sig n list) fit (ranked chosen)
      (All-permutation (λ (r : LfRule). fit r ≡ false → choices_by sig n list r ≡ []) chosen (ranked chosen) (ranked_moves chosen)
      (All-filter may_be_chosen (λ (r : LfRule). fit r ≡ false → choices_by sig n list r ≡ []) all
      (All-weaker (IsRuleIn book) (λ (r : LfRule). fit r ≡ false → choices_by sig n list r ≡ []) no_choices all (rules_are_in book numbers))))
