-- Candidates, one more at a time, and their order.
use Rattle.std.proofs.Common.{◌≡◌, ◌≢◌, ◌↔◌, ℕ, zero, suc, ◌+◌, ◌<◌, Bool, true, false, List, [], ◌∷◌, ◌++◌, length, get_or, map, Option, Some, refl, sym, ap, ◌∙◌, subst, ap₂, subst₂, arith, ◌⊎◌, inl, inr}
use Rattle.std.specs.Prelude.{slice_get, Contains, All, ℤ, pos, neg_ℤ, ◌<ℤ◌, nat_eq, codes, ◌||◌}
use Rattle.std.specs.List.{IsDistinct, list_any}
use Rattle.std.specs.List.Sorted.{IsPermutation, IsSortedByKey}
use Rattle.std.specs.declared.cmp.Ordering.{Ordering}
use Rattle.std.specs.declared.cmp.Ordering.TheVariants.{Less, Equal, Greater}
use Rattle.std.specs.Ordering.{is_lt, ordering_then, nat_cmp, int_cmp, MatchOrdering}
use Rattle.std.specs.Cmp.{IsTotalOrder, IsEquivalence, ranks, int_ranks, nat_cmp_total, int_cmp_total, on_total, then_total, on_equiv, nat_eq_equiv}
use Rattle.std.proofs.Common.{below_more}
use Rattle.std.proofs.lemmas.Bool.{eq-eqb, eqb-true}
use Rattle.std.proofs.lemmas.List.Elements.{All-nil, All-cons, All-tail, All-append, Contains-append_left, Contains-append_right}
use Rattle.std.proofs.lemmas.List.Sorted.{sorted_far, ranks_by, Contains-permutation, All-permutation}
use Rattle.std.proofs.lemmas.Map.Keys.{IsDistinct-push, IsDistinct-IsPermutation, apart_from_distinct}
use Rattle.std.proofs.lemmas.Int.{ints}
use Rattle.std.proofs.lemmas.Option.{slice_get_within, slice_get_read, get_or_from_slice_get}
use Rattle.lf_definitions.proofs.Options.{Some-Some}
use Rattle.rule_sets.specs.declared.rule.Phase.{Phase}
use Rattle.rule_sets.specs.declared.rule.Phase.TheVariants.{Norm, Safe, Unsafe}
use Rattle.rule_sets.specs.declared.rule.Rule.{Rule}
use Rattle.rule_sets.specs.declared.order.Candidate.{Candidate}
use Rattle.rule_sets.specs.Books.{Book}
use Rattle.rule_sets.specs.Orders.{IsActive, IsBefore, norm_before_safe, norm_before_unsafe, safe_before_unsafe, lower_norm, lower_safe, higher_unsafe, IsTriedBefore, IsOrder}
use Rattle.rule_sets.specs.Candidates.{key_in, key_of, IsCandidate, AreCandidates}

-- Lists by their places.

pub at_from_Contains : {X : Type 0} (xs : List X) (x : X) → Contains xs x → (i : ℕ) × (slice_get xs i ≡ Some x)
at_from_Contains xs x (k, within, e) = (k, slice_get_read xs (length xs) k x refl within (sym e))

pub Contains_from_at : {X : Type 0} (xs : List X) (i : ℕ) (x : X) → slice_get xs i ≡ Some x → Contains xs x
Contains_from_at xs i x e = (i, slice_get_within xs i x e, get_or_from_slice_get xs i x x e)

all_at : {X : Type 0} (P : X → Type 0) (xs : List X) (i : ℕ) (x : X) → All P xs → slice_get xs i ≡ Some x → P x
all_at P xs i x all e = subst P (get_or_from_slice_get xs i x x e) (all i x (slice_get_within xs i x e))

abbrev numbers : List Candidate → List ℕ
numbers ts = map (λ candidate. candidate.number) ts

number_at : (ts : List Candidate) (i k : ℕ) → slice_get (numbers ts) i ≡ Some k → (t : Candidate) × (slice_get ts i ≡ Some t) × (t.number ≡ k)
number_at [] i k e = absurd cc
number_at (t ∷ ts) zero k e = (t, refl, inj e)
  where
    inj : {a b : ℕ} → ◌≡◌ {A = Option ℕ} (Some a) (Some b) → a ≡ b
    inj e = cc
number_at (t ∷ ts) (suc i) k e = number_at ts i k e

at_number : (ts : List Candidate) (i : ℕ) (t : Candidate) → slice_get ts i ≡ Some t → slice_get (numbers ts) i ≡ Some t.number
at_number [] i t e = absurd cc
at_number (u ∷ ts) zero t e = ap (λ (x : Candidate). Some x.number) (inj e)
  where
    inj : {a b : Candidate} → ◌≡◌ {A = Option Candidate} (Some a) (Some b) → a ≡ b
    inj e = cc
at_number (u ∷ ts) (suc i) t e = at_number ts i t e

-- Candidates, one more.

abbrev same_number : Candidate → Candidate → Bool
same_number candidate other = nat_eq candidate.number other.number

same_number_equiv : IsEquivalence same_number
same_number_equiv = on_equiv (λ (t : Candidate). t.number) nat_eq_equiv

unlike : (n m : ℕ) → m < n → nat_eq n m ≡ false
unlike n m less = by (nat_eq n m) refl
  where
    by : (b : Bool) → nat_eq n m ≡ b → nat_eq n m ≡ false
    by true e = let same : n ≡ m = eqb-true n m e in absurd (omega arith)
    by false e = e

none_like : (n : ℕ) (ts : List Candidate) → All (λ candidate. candidate.number < n) ts → list_any (λ other. nat_eq n other.number) ts ≡ false
none_like n [] below = refl
none_like n (t ∷ ts) below = any_step _ _ (unlike n t.number (below 0 t (omega arith))) (none_like n ts (All-tail (λ candidate. candidate.number < n) t ts below))
  where
    any_step : (a b : Bool) → a ≡ false → b ≡ false → a || b ≡ false
    any_step a b e f = ap₂ (λ x y. x || y) e f

pub no_candidates : (book : Book) (chosen : List (List ℕ)) → AreCandidates book chosen 0 []
unfolding IsDistinct
no_candidates book chosen = record {
  are_candidates = All-nil (IsCandidate book chosen);
  all = λ number rule within is has. absurd (omega arith);
  below = All-nil (λ candidate. candidate.number < 0);
  apart = tt;
}

module _ (book : Book) (chosen : List (List ℕ)) (n : ℕ) (candidates : List Candidate) (rule : Rule) (rule_is : slice_get book.rules n ≡ Some rule) (so_far : AreCandidates book chosen n candidates) where
  lower : (m : ℕ) → m < n → m < n + 1
  lower m less = omega arith

  all_lower : (ts : List Candidate) → All (λ candidate. candidate.number < n) ts → All (λ candidate. candidate.number < n + 1) ts
  all_lower ts all k d within = lower _ (all k d within)

  pub candidate_skipped : (Contains chosen rule.set → ⊥) → AreCandidates book chosen (n + 1) candidates
  candidate_skipped other = record {
    are_candidates = so_far.are_candidates;
    all = λ number r within is has.
        below_more (λ k. (r : Rule) → slice_get book.rules k ≡ Some r → Contains chosen r.set → Contains candidates (record { phase = r.phase; number = k })) n
        (λ k less r is has. so_far.all k r less is has)
        (λ r is has. let P : Rule → Type 0 = λ x. Contains chosen x.set in absurd (other (subst P (Some-Some (sym is ∙ rule_is)) has)))
        number within r is has;
    below = all_lower candidates so_far.below;
    apart = so_far.apart;
  }

  pub candidate_more : (new : List Candidate) → Contains chosen rule.set → new ≡ candidates ++ record { phase = rule.phase; number = n } ∷ [] → AreCandidates book chosen (n + 1) new
  candidate_more new has pushed =
      let candidate : Candidate = record { phase = rule.phase; number = n } in
      let P : List Candidate → Type 0 = AreCandidates book chosen (n + 1) in
      subst P (sym pushed) (record {
        are_candidates = All-append (IsCandidate book chosen) candidates (candidate ∷ []) so_far.are_candidates
            (All-cons (IsCandidate book chosen) candidate [] (record { rule = rule; rule_is = rule_is; phase_is = refl; is_chosen = has }) (All-nil (IsCandidate book chosen)));
        all = λ number r within is has.
            below_more (λ k. (r : Rule) → slice_get book.rules k ≡ Some r → Contains chosen r.set → Contains (candidates ++ candidate ∷ []) (record { phase = r.phase; number = k })) n
            (λ k less r is has. Contains-append_left candidates (candidate ∷ []) _ (so_far.all k r less is has))
            (λ r is has.
            let Q : Rule → Type 0 = λ x. Contains (candidates ++ candidate ∷ []) (record { phase = x.phase; number = n }) in
            subst Q (Some-Some (sym rule_is ∙ is)) (Contains-append_right candidates (candidate ∷ []) candidate (0, omega arith, refl)))
            number within r is has;
        below = All-append (λ t. t.number < n + 1) candidates (candidate ∷ []) (all_lower candidates so_far.below) (All-cons (λ t. t.number < n + 1) candidate [] (omega arith) (All-nil (λ t. t.number < n + 1)));
        apart = IsDistinct-push same_number_equiv candidates candidate so_far.apart (none_like n candidates so_far.below);
      })

-- The order of keys.

abbrev pub key_cmp : ℕ × ℤ × ℕ → ℕ × ℤ × ℕ → Ordering
key_cmp x y = ordering_then (ordering_then (nat_cmp x.0 y.0) (int_cmp x.1 y.1)) (nat_cmp x.2 y.2)

key_total : IsTotalOrder key_cmp
key_total = then_total (then_total (on_total (λ (t : ℕ × ℤ × ℕ). t.0) nat_cmp_total) (on_total (λ (t : ℕ × ℤ × ℕ). t.1) int_cmp_total)) (on_total (λ (t : ℕ × ℤ × ℕ). t.2) nat_cmp_total)

then_numbers : (r : Ordering) (m n : ℕ) → MatchOrdering r (n < m) (n ≡ m) (m < n) → is_lt r ≡ false → m ≢ n → m < n
then_numbers Less m n k h ne = absurd cc
then_numbers Equal m n k h ne = absurd (ne (sym k))
then_numbers Greater m n k h ne = k

weighed : (r : Ordering) (p q : ℤ) (m n : ℕ) → MatchOrdering r (q <ℤ p) (q ≡ p) (p <ℤ q) → is_lt (ordering_then r (nat_cmp n m)) ≡ false → m ≢ n → (p <ℤ q) ⊎ ((p ≡ q) × (m < n))
weighed Less p q m n k h ne = absurd cc
weighed Equal p q m n k h ne = inr (sym k, then_numbers (nat_cmp n m) m n (ranks n m) h ne)
weighed Greater p q m n k h ne = inl k

turned_less : (x y : ℕ) → neg_ℤ (pos x) <ℤ neg_ℤ (pos y) → y < x
turned_less x y less = omega (arith, ints)

turned_same : (x y : ℕ) → neg_ℤ (pos x) ≡ neg_ℤ (pos y) → x ≡ y
turned_same x y e = omega (arith, ints)

in_order : (a b : Phase) (m n : ℕ) → is_lt (key_cmp (key_in b n) (key_in a m)) ≡ false → m ≢ n → IsBefore a b ⊎ ((a ≡ b) × (m < n))
in_order (Norm p) (Norm q) m n h ne = elim (weighed (int_cmp q p) p q m n (int_ranks q p) h ne) [ inl less ↦ inl (lower_norm p q less) | inr (same, less) ↦ inr (ap Norm same, less) ]
in_order (Norm p) (Safe q) m n h ne = inl (norm_before_safe p q)
in_order (Norm p) (Unsafe y) m n h ne = inl (norm_before_unsafe p y)
in_order (Safe p) (Norm q) m n h ne = absurd cc
in_order (Safe p) (Safe q) m n h ne = elim (weighed (int_cmp q p) p q m n (int_ranks q p) h ne) [ inl less ↦ inl (lower_safe p q less) | inr (same, less) ↦ inr (ap Safe same, less) ]
in_order (Safe p) (Unsafe y) m n h ne = inl (safe_before_unsafe p y)
in_order (Unsafe x) (Norm q) m n h ne = absurd cc
in_order (Unsafe x) (Safe q) m n h ne = absurd cc
in_order (Unsafe x) (Unsafe y) m n h ne =
    elim (weighed (int_cmp (neg_ℤ (pos y)) (neg_ℤ (pos x))) (neg_ℤ (pos x)) (neg_ℤ (pos y)) m n (int_ranks (neg_ℤ (pos y)) (neg_ℤ (pos x))) h ne) [
      | inl less ↦ inl (higher_unsafe x y (turned_less x y less))
      | inr (same, less) ↦ inr (ap Unsafe (turned_same x y same), less)
    ]

-- Candidates that were sorted.

module _ (book : Book) (sets chosen : List (List ℕ)) (xs ys : List Candidate) (listed : (name : List ℕ) → Contains chosen name ↔ (Contains sets name ⊎ (name ≡ codes "builtin")))
    (candidates : AreCandidates book chosen (length book.rules) xs) (moved : IsPermutation xs ys) (sorted : IsSortedByKey key_of key_cmp ys) where
  are_candidates : All (IsCandidate book chosen) ys
  are_candidates = All-permutation (IsCandidate book chosen) xs ys moved candidates.are_candidates

  apart : IsDistinct same_number ys
  apart = IsDistinct-IsPermutation same_number (λ x y. nat_eq_equiv.symm x.number y.number) xs ys moved candidates.apart

  active : (number : ℕ) → Contains (numbers ys) number ↔ IsActive book sets number
  active number = (
    λ has.
        let place = at_from_Contains (numbers ys) number has in
        let candidate = number_at ys place.0 number place.1 in
        let is = all_at (IsCandidate book chosen) ys place.0 candidate.0 are_candidates candidate.1 in
        let P : ℕ → Type 0 = IsActive book sets in
        subst P candidate.2 (record { rule = is.rule; rule_is = is.rule_is; active = (listed is.rule.set).0 is.is_chosen }),
    λ is.
        let here = candidates.all number is.rule (slice_get_within book.rules number is.rule is.rule_is) is.rule_is ((listed is.rule.set).1 is.active) in
        let place = at_from_Contains ys _ (Contains-permutation xs ys _ moved here) in
        Contains_from_at (numbers ys) place.0 number (at_number ys place.0 _ place.1),
  )

  numbers_differ : (i j : ℕ) (t u : Candidate) → i < j → slice_get ys i ≡ Some t → slice_get ys j ≡ Some u → t.number ≢ u.number
  numbers_differ i j t u less t_is u_is same =
      let differ : nat_eq (get_or ys i t).number (get_or ys j t).number ≡ false = apart_from_distinct same_number ys i j t apart less (slice_get_within ys j u u_is) in
      let unlike : nat_eq t.number u.number ≡ false =
      ap (λ (x : Candidate). nat_eq x.number u.number) (sym (get_or_from_slice_get ys i t t t_is)) ∙ ap (λ (x : Candidate). nat_eq (get_or ys i t).number x.number) (sym (get_or_from_slice_get ys j u t u_is)) ∙ differ in
      let alike : nat_eq t.number u.number ≡ true = eq-eqb t.number u.number same in
      cc

  in_place : (i j : ℕ) (t u : Candidate) → i < j → slice_get ys i ≡ Some t → slice_get ys j ≡ Some u → IsBefore t.phase u.phase ⊎ ((t.phase ≡ u.phase) × (t.number < u.number))
  in_place i j t u less t_is u_is =
      let far : is_lt (key_cmp (key_of (get_or ys j t)) (key_of (get_or ys i t))) ≡ false =
      sorted_far (λ x y. is_lt (key_cmp (key_of x) (key_of y))) (ranks_by key_total key_of) ys sorted i j t (omega arith) (slice_get_within ys j u u_is) in
      let here : is_lt (key_cmp (key_of u) (key_of t)) ≡ false =
      ap (λ (x : Candidate). is_lt (key_cmp (key_of x) (key_of t))) (sym (get_or_from_slice_get ys j u t u_is)) ∙ ap (λ (x : Candidate). is_lt (key_cmp (key_of (get_or ys j t)) (key_of x))) (sym (get_or_from_slice_get ys i t t t_is)) ∙ far in
      in_order t.phase u.phase t.number u.number here (numbers_differ i j t u less t_is u_is)

  tried_before : (i j : ℕ) (t u : Candidate) → i < j → slice_get ys i ≡ Some t → slice_get ys j ≡ Some u → IsTriedBefore book t.number u.number
  tried_before i j t u less t_is u_is =
      let a = all_at (IsCandidate book chosen) ys i t are_candidates t_is in
      let b = all_at (IsCandidate book chosen) ys j u are_candidates u_is in
      let P : Phase → Phase → Type 0 = λ p q. IsBefore p q ⊎ ((p ≡ q) × (t.number < u.number)) in
      record { rule = a.rule; other = b.rule; rule_is = a.rule_is; other_is = b.rule_is; before = subst₂ P a.phase_is b.phase_is (in_place i j t u less t_is u_is) }

  pub is_order : (all : List ℕ) → all ≡ numbers ys → IsOrder book sets all
  is_order all is =
      let P : List ℕ → Type 0 = IsOrder book sets in
      subst P (sym is) (record {
        active = active;
        ordered = λ i j first second less first_is second_is.
            let t = number_at ys i first first_is in
            let u = number_at ys j second second_is in
            let Q : ℕ → ℕ → Type 0 = IsTriedBefore book in
            subst₂ Q t.2 u.2 (tried_before i j t.0 u.0 less t.1 u.1);
      })
