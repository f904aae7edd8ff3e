-- Two orders of the same rules are equal.
use Rattle.std.proofs.Common.{◌≡◌, ℕ, zero, suc, ◌<◌, List, [], ◌∷◌, Option, Some, refl, sym, ap, ap₂, ◌∙◌, subst, arith, inl, inr, ◌⊎◌}
use Rattle.std.specs.Prelude.{slice_get}
use Rattle.std.proofs.lemmas.Int.{ints}
use Rattle.lf_definitions.proofs.Options.{Some-Some}
use Rattle.rule_sets.specs.declared.rule.Phase.{Phase}
use Rattle.rule_sets.specs.declared.rule.Rule.{Rule}
use Rattle.rule_sets.specs.Books.{Book}
use Rattle.rule_sets.specs.Orders.{IsBefore, norm_before_safe, norm_before_unsafe, safe_before_unsafe, lower_norm, lower_safe, higher_unsafe, IsTriedBefore, IsOrder}
use Rattle.rule_sets.proofs.Candidates.{at_from_Contains, Contains_from_at}

not_both : (a b : Phase) → IsBefore a b → IsBefore b a → ⊥
not_both _ _ (norm_before_safe p q) h = elim h [ ]
not_both _ _ (norm_before_unsafe p n) h = elim h [ ]
not_both _ _ (safe_before_unsafe p n) h = elim h [ ]
not_both _ _ (lower_norm p q less) (lower_norm _ _ more) = omega (arith, ints)
not_both _ _ (lower_safe p q less) (lower_safe _ _ more) = omega (arith, ints)
not_both _ _ (higher_unsafe m n less) (higher_unsafe _ _ more) = omega arith

tried_once : (book : Book) (a b : ℕ) → IsTriedBefore book a b → IsTriedBefore book b a → ⊥
tried_once book a b h k =
    let first : h.rule.phase ≡ k.other.phase = ap (λ (r : Rule). r.phase) (Some-Some (sym h.rule_is ∙ k.other_is)) in
    let second : h.other.phase ≡ k.rule.phase = ap (λ (r : Rule). r.phase) (Some-Some (sym h.other_is ∙ k.rule_is)) in
    let P : Phase → Type 0 = IsBefore h.rule.phase in
    let Q : Phase → Type 0 = λ p. IsBefore p h.rule.phase in
    elim h.before [
      | inl less ↦ elim k.before [
        | inl more ↦ not_both h.rule.phase h.other.phase less
            (let R : Phase → Type 0 = λ p. IsBefore h.other.phase p in let T : Phase → Type 0 = λ p. IsBefore p k.other.phase in subst R (sym first) (subst T (sym second) more))
        | inr (same, later) ↦ (let here : IsBefore h.rule.phase h.rule.phase = subst P (second ∙ same ∙ sym first) less in not_both _ _ here here)
      ]
      | inr (same, later) ↦ elim k.before [
        | inl more ↦ (let U : Phase → Type 0 = λ p. IsBefore p k.other.phase in let here : IsBefore k.other.phase k.other.phase = subst U (sym second ∙ sym same ∙ first) more in not_both _ _ here here)
        | inr (_, sooner) ↦ omega arith
      ]
    ]

-- Lists in which each number comes before those after it, where no two come before each other.
module _ (Before : ℕ → ℕ → Type 0) (once : (a b : ℕ) → Before a b → Before b a → ⊥) where
  abbrev InOrder : List ℕ → Type 0
  InOrder xs = (i j first second : ℕ) → i < j → slice_get xs i ≡ Some first → slice_get xs j ≡ Some second → Before first second

  abbrev Has : List ℕ → ℕ → Type 0
  Has xs z = (i : ℕ) × (slice_get xs i ≡ Some z)

  tail_in_order : (x : ℕ) (xs : List ℕ) → InOrder (x ∷ xs) → InOrder xs
  tail_in_order x xs rise i j first second less a b = rise (suc i) (suc j) first second (omega arith) a b

  head_before : (x z : ℕ) (xs : List ℕ) → InOrder (x ∷ xs) → Has xs z → Before x z
  head_before x z xs rise (i, here) = rise 0 (suc i) x z (omega arith) refl here

  nat_inj : {a b : ℕ} → ◌≡◌ {A = Option ℕ} (Some a) (Some b) → a ≡ b
  nat_inj e = cc

  cases : (y z : ℕ) (ys : List ℕ) → Has (y ∷ ys) z → (y ≡ z) ⊎ Has ys z
  cases y z ys (zero, here) = inl (nat_inj here)
  cases y z ys (suc i, here) = inr (i, here)

  heads_are_one : (x y : ℕ) (xs ys : List ℕ) → InOrder (x ∷ xs) → InOrder (y ∷ ys) → Has (y ∷ ys) x → Has (x ∷ xs) y → x ≡ y
  heads_are_one x y xs ys rise others there back =
      elim (cases y x ys there) [
        | inl same ↦ sym same
        | inr later ↦ elim (cases x y xs back) [ inl same ↦ same | inr after ↦ absurd (once x y (head_before x y xs rise after) (head_before y x ys others later)) ]
      ]

  rest_has : (x y z : ℕ) (xs ys : List ℕ) → x ≡ y → InOrder (x ∷ xs) → Has (y ∷ ys) z → Has xs z → Has ys z
  rest_has x y z xs ys same rise there here =
      elim (cases y z ys there) [
        | inl first ↦ (let P : ℕ → Type 0 = λ k. Before x k in let self : Before x x = subst P (sym first ∙ sym same) (head_before x z xs rise here) in absurd (once x x self self))
        | inr later ↦ later
      ]

  lists_are_one : (xs ys : List ℕ) → InOrder xs → InOrder ys → ((z : ℕ) → Has xs z → Has ys z) → ((z : ℕ) → Has ys z → Has xs z) → xs ≡ ys
  lists_are_one [] [] rise others there back = refl
  lists_are_one [] (y ∷ ys) rise others there back = absurd (let none = (back y (0, refl)).1 in cc)
  lists_are_one (x ∷ xs) [] rise others there back = absurd (let none = (there x (0, refl)).1 in cc)
  lists_are_one (x ∷ xs) (y ∷ ys) rise others there back =
      let same : x ≡ y = heads_are_one x y xs ys rise others (there x (0, refl)) (back y (0, refl)) in
      ap₂ (λ h t. h ∷ t) same (lists_are_one xs ys (tail_in_order x xs rise) (tail_in_order y ys others)
      (λ z has. rest_has x y z xs ys same rise (there z (suc has.0, has.1)) has)
      (λ z has. rest_has y x z ys xs (sym same) others (back z (suc has.0, has.1)) has))

pub orders_are_one : (book : Book) (sets : List (List ℕ)) (numbers others : List ℕ) → IsOrder book sets numbers → IsOrder book sets others → numbers ≡ others
orders_are_one book sets numbers others a b =
    lists_are_one (IsTriedBefore book) (tried_once book) numbers others a.ordered b.ordered
    (λ z has. at_from_Contains others z ((b.active z).1 ((a.active z).0 (Contains_from_at numbers has.0 z has.1))))
    (λ z has. at_from_Contains numbers z ((a.active z).1 ((b.active z).0 (Contains_from_at others has.0 z has.1))))
