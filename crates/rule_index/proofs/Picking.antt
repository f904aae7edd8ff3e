-- The compatible rules are picked by their places, in rising order.
use Rattle.std.proofs.Common.{◌≡◌, ℕ, zero, suc, ◌+◌, ◌-◌, ◌<◌, ◌≤◌, Bool, true, false, cond, List, [], ◌∷◌, ◌++◌, length, get_or, drop, map, filter, Some, refl, sym, ap, ◌∙◌, arith, append_assoc, append-nil, drop-cons, add-one, ◌⊎◌, inl, inr}
use Rattle.std.specs.Prelude.{slice_get, Contains, IsSorted}
use Rattle.std.specs.Ordering.{nat_cmp, is_lt, MatchOrdering}
use Rattle.std.specs.declared.cmp.Ordering.{Ordering}
use Rattle.std.specs.declared.cmp.Ordering.TheVariants.{Less, Equal, Greater}
use Rattle.std.specs.Cmp.{ranks, nat_cmp_total}
use Rattle.std.proofs.lemmas.List.{drop_all}
use Rattle.std.proofs.lemmas.List.Sorted.{sorted_far, ranks_by}
use Rattle.std.proofs.lemmas.Option.{slice_get_within, get_or_from_slice_get, slice_get_cases}
use Rattle.lf_definitions.proofs.Options.{Some_inj}
use Rattle.rule_index.specs.Keys.{KeyedRule}
use Rattle.rule_sets.proofs.Candidates.{at_from_Contains}

-- Rules that pass a test, by their numbers.
module _ (good : KeyedRule → Bool) (rules : List KeyedRule) where
  abbrev pub passing : List KeyedRule → List ℕ
  passing some = map (λ rule. rule.number) (filter good some)

  pub passed_over : (n a : ℕ) → ((i : ℕ) (rule : KeyedRule) → slice_get rules i ≡ Some rule → a ≤ i → i < a + n → good rule ≡ false) → passing (drop a rules) ≡ passing (drop (a + n) rules)
  passed_over zero a none = ap (λ k. passing (drop k rules)) (omega arith)
  passed_over (suc n) a none =
      let same : suc (a + n) ≡ a + suc n = omega arith in
      passed_over n a (λ i rule is above below. none i rule is above (omega arith))
      ∙ elim (slice_get_cases rules (a + n)).1 [
        | inl (rule, within, is, read) ↦ (
            let out : good rule ≡ false = none (a + n) rule is (omega arith) (omega arith) in
            ap passing (drop-cons rules (a + n) rule within ∙ ap (λ r. r ∷ drop (suc (a + n)) rules) read)
            ∙ ap (λ b. map (λ (r : KeyedRule). r.number) (cond b (rule ∷ filter good (drop (suc (a + n)) rules)) (filter good (drop (suc (a + n)) rules)))) out
            ∙ ap (λ k. passing (drop k rules)) same)
        | inr (past, is) ↦ ap passing (drop_all (a + n) rules past) ∙ ap passing (sym (drop_all (a + suc n) rules (omega arith)))
      ]

  -- The place stands in the list at an index or after it.
  abbrev StandsFrom : List ℕ → ℕ → ℕ → Type 0
  StandsFrom places index place = (j : ℕ) × (index ≤ j) × (slice_get places j ≡ Some place)

  -- The rules before a place were picked, and the places of the others are still to come.
  pub record HasPicked (places : List ℕ) (index passed : ℕ) (numbers : List ℕ) : Type 0 where
    pub picked : numbers ++ passing (drop passed rules) ≡ passing rules
    pub to_come : (place : ℕ) (rule : KeyedRule) → slice_get rules place ≡ Some rule → good rule ≡ true → passed ≤ place → (j : ℕ) × (index ≤ j) × (slice_get places j ≡ Some place)

  pub picking_begins : (places : List ℕ) → ((place : ℕ) (rule : KeyedRule) → slice_get rules place ≡ Some rule → good rule ≡ true → Contains places place) → HasPicked places 0 0 []
  picking_begins places all = record {
    picked = refl;
    to_come = λ place rule is passes from. let here = at_from_Contains places place (all place rule is passes) in (here.0, omega arith, here.1);
  }

  is_not : (b : Bool) → (b ≡ true → ⊥) → b ≡ false
  is_not true never = absurd (never refl)
  is_not false never = refl

  not_less : (r : Ordering) (m n : ℕ) → MatchOrdering r (m < n) (m ≡ n) (n < m) → is_lt r ≡ false → n ≤ m
  not_less Less m n h e = absurd cc
  not_less Equal m n h e = omega (arith, h)
  not_less Greater m n h e = omega (arith, h)

  module _ (places : List ℕ) (index passed : ℕ) (numbers : List ℕ) (place : ℕ) (place_is : slice_get places index ≡ Some place) (so_far : HasPicked places index passed numbers) where
    later : (other : ℕ) → StandsFrom places index other → (place ≡ other) ⊎ StandsFrom places (index + 1) other
    later other (j, from, is) = elim (eq_or_more index j from) [
      | inl same ↦ inl (Some_inj place_is (ap (slice_get places) same ∙ is))
      | inr more ↦ inr (j, more, is)
    ]
      where
        eq_or_more : (a b : ℕ) → a ≤ b → (a ≡ b) ⊎ (a + 1 ≤ b)
        eq_or_more zero zero le = inl refl
        eq_or_more zero (suc b) le = inr (omega arith)
        eq_or_more (suc a) zero le = absurd (omega arith)
        eq_or_more (suc a) (suc b) le = elim (eq_or_more a b (omega arith)) [ inl e ↦ inl (ap suc e) | inr more ↦ inr (omega (arith, more)) ]

    pub place_skipped : (place < passed) ⊎ (length rules ≤ place) → HasPicked places (index + 1) passed numbers
    place_skipped out = record {
      picked = so_far.picked;
      to_come = λ other rule is passes from. elim (later other (so_far.to_come other rule is passes from)) [
        | inl same ↦ absurd (
            let within = slice_get_within rules other rule is in
            elim out [ inl before ↦ omega (arith, same, before, from) | inr past ↦ omega (arith, same, past, within) ])
        | inr h ↦ h
      ];
    }

    module _ (sorted : IsSorted nat_cmp places) (from : passed ≤ place) (rule : KeyedRule) (rule_is : slice_get rules place ≡ Some rule) where
      in_order : (j other : ℕ) → index ≤ j → slice_get places j ≡ Some other → place ≤ other
      in_order j other after is =
          let far : is_lt (nat_cmp (get_or places j other) (get_or places index other)) ≡ false =
          sorted_far (λ x y. is_lt (nat_cmp x y)) (ranks_by nat_cmp_total (λ (x : ℕ). x)) places sorted index j other after (slice_get_within places j other is) in
          let there : get_or places j other ≡ other = get_or_from_slice_get places j other other is in
          let here : get_or places index other ≡ place = get_or_from_slice_get places index place other place_is in
          not_less (nat_cmp other place) other place (ranks other place) (ap (λ x. is_lt (nat_cmp x place)) (sym there) ∙ ap (λ x. is_lt (nat_cmp (get_or places j other) x)) (sym here) ∙ far)

      between : passing (drop passed rules) ≡ passing (drop place rules)
      between =
          let sum : passed + (place - passed) ≡ place = omega (arith, from) in
          passed_over (place - passed) passed (λ i other is above below. is_not (good other) (λ passes.
          let stands = so_far.to_come i other is passes above in
          let order : place ≤ i = in_order stands.0 i stands.1 stands.2 in
          omega (arith, sum, below, order)))
          ∙ ap (λ k. passing (drop k rules)) sum

      from_here : passing (drop place rules) ≡ map (λ (r : KeyedRule). r.number) (cond (good rule) (rule ∷ filter good (drop (place + 1) rules)) (filter good (drop (place + 1) rules)))
      from_here =
          ap passing (drop-cons rules place rule (slice_get_within rules place rule rule_is) ∙ ap (λ r. r ∷ drop (suc place) rules) (get_or_from_slice_get rules place rule rule rule_is))
          ∙ ap (λ k. map (λ (r : KeyedRule). r.number) (cond (good rule) (rule ∷ filter good (drop k rules)) (filter good (drop k rules)))) (sym (add-one place))

      to_come_after : (other : ℕ) (r : KeyedRule) → slice_get rules other ≡ Some r → good r ≡ true → place + 1 ≤ other → (j : ℕ) × (index + 1 ≤ j) × (slice_get places j ≡ Some other)
      to_come_after other r is passes more = elim (later other (so_far.to_come other r is passes (omega (arith, from, more)))) [ inl same ↦ absurd (omega (arith, same, more)) | inr h ↦ h ]

      pub rule_picked : good rule ≡ true → (new : List ℕ) → new ≡ numbers ++ rule.number ∷ [] → HasPicked places (index + 1) (place + 1) new
      rule_picked passes new new_is = record {
        picked =
            ap (λ xs. xs ++ passing (drop (place + 1) rules)) new_is
            ∙ append_assoc numbers (rule.number ∷ []) (passing (drop (place + 1) rules))
            ∙ ap (λ xs. numbers ++ xs) (sym (between ∙ from_here ∙ ap (λ b. map (λ (r : KeyedRule). r.number) (cond b (rule ∷ filter good (drop (place + 1) rules)) (filter good (drop (place + 1) rules)))) passes))
            ∙ so_far.picked;
        to_come = to_come_after;
      }

      pub rule_left : good rule ≡ false → HasPicked places (index + 1) (place + 1) numbers
      rule_left fails = record {
        picked =
            ap (λ xs. numbers ++ xs) (sym (between ∙ from_here ∙ ap (λ b. map (λ (r : KeyedRule). r.number) (cond b (rule ∷ filter good (drop (place + 1) rules)) (filter good (drop (place + 1) rules)))) fails))
            ∙ so_far.picked;
        to_come = to_come_after;
      }

  pub picking_ends : (places : List ℕ) (index passed : ℕ) (numbers : List ℕ) → length places ≤ index → HasPicked places index passed numbers → numbers ≡ passing rules
  picking_ends places index passed numbers past so_far =
      let none : passing (drop passed rules) ≡ [] =
      passed_over (length rules) passed (λ i rule is above below. is_not (good rule) (λ passes.
      let stands = so_far.to_come i rule is passes above in
      let within = slice_get_within places stands.0 i stands.2 in
      omega (arith, past, within, stands.1)))
      ∙ ap passing (drop_all (passed + length rules) rules (omega arith)) in
      sym (append-nil numbers) ∙ ap (λ xs. numbers ++ xs) (sym none) ∙ so_far.picked
