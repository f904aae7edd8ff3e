-- Lists in order that have the same members are equal.
use Rattle.std.proofs.Common.{◌≡◌, zero, suc, Bool, true, false, cond, List, [], ◌∷◌, map, filter, refl, sym, ◌∙◌, ap₂, subst, arith, ◌⊎◌, inl, inr}
use Rattle.std.specs.Prelude.{All, AllPairs, Contains}
use Rattle.std.proofs.lemmas.List.Elements.{All-nil, All-cons, All-head, All-tail, All-contains, All-contains_itself, All-filter, All-map, filter_passes}
use Rattle.std.proofs.lemmas.List.Kept.{AllPairs-cons}
use Rattle.head_laws.proofs.Numbers.{Contains-here, Contains-later}

pub AllPairs-nil : {X : Type 0} (R : X → X → Type 0) → AllPairs R []
AllPairs-nil R i j d less within = absurd (omega arith)

pub AllPairs-head : {X : Type 0} (R : X → X → Type 0) (x : X) (xs : List X) → AllPairs R (x ∷ xs) → All (R x) xs
AllPairs-head R x xs pairs k d less = pairs 0 (suc k) d (omega arith) (omega arith)

pub AllPairs-tail : {X : Type 0} (R : X → X → Type 0) (x : X) (xs : List X) → AllPairs R (x ∷ xs) → AllPairs R xs
AllPairs-tail R x xs pairs i j d less within = pairs (suc i) (suc j) d (omega arith) (omega arith)

pub AllPairs-map : {X Y : Type 0} (f : X → Y) (R : Y → Y → Type 0) (xs : List X) → AllPairs (λ x y. R (f x) (f y)) xs → AllPairs R (map f xs)
AllPairs-map f R [] pairs = AllPairs-nil R
AllPairs-map {X = X} f R (x ∷ xs) pairs =
    let S : X → X → Type 0 = λ y z. R (f y) (f z) in
    AllPairs-cons R (f x) (map f xs) (All-map (R (f x)) f xs (AllPairs-head S x xs pairs)) (AllPairs-map f R xs (AllPairs-tail S x xs pairs))

All-from_map : {X Y : Type 0} (f : X → Y) (P : Y → Type 0) (xs : List X) → All P (map f xs) → All (λ x. P (f x)) xs
All-from_map {X = X} f P [] all = let Q : X → Type 0 = λ x. P (f x) in All-nil Q
All-from_map {X = X} f P (x ∷ xs) all =
    let Q : X → Type 0 = λ y. P (f y) in
    All-cons Q x xs (All-head P (f x) (map f xs) all) (All-from_map f P xs (All-tail P (f x) (map f xs) all))

pub AllPairs-from_map : {X Y : Type 0} (f : X → Y) (R : Y → Y → Type 0) (xs : List X) → AllPairs R (map f xs) → AllPairs (λ x y. R (f x) (f y)) xs
AllPairs-from_map {X = X} f R [] pairs = let S : X → X → Type 0 = λ y z. R (f y) (f z) in AllPairs-nil S
AllPairs-from_map {X = X} f R (x ∷ xs) pairs =
    let S : X → X → Type 0 = λ y z. R (f y) (f z) in
    AllPairs-cons S x xs (All-from_map f (R (f x)) xs (AllPairs-head R (f x) (map f xs) pairs)) (AllPairs-from_map f R xs (AllPairs-tail R (f x) (map f xs) pairs))

Contains-cases : {X : Type 0} (y : X) (ys : List X) (z : X) → Contains (y ∷ ys) z → (y ≡ z) ⊎ Contains ys z
Contains-cases y ys z (zero, less, e) = inl e
Contains-cases y ys z (suc k, less, e) = inr (k, omega arith, e)

pub Contains-filter : {X : Type 0} (p : X → Bool) (xs : List X) (z : X) → Contains xs z → p z ≡ true → Contains (filter p xs) z
Contains-filter p [] z (k, less, e) passes = absurd (omega arith)
Contains-filter {X = X} p (x ∷ xs) z has passes = step (p x) refl (Contains-cases x xs z has) (λ later. Contains-filter p xs z later passes)
  where
    step : (b : Bool) → p x ≡ b → (x ≡ z) ⊎ Contains xs z → (Contains xs z → Contains (filter p xs) z) → Contains (cond b (x ∷ filter p xs) (filter p xs)) z
    step true e (inl same) later = subst (λ (w : X). Contains (w ∷ filter p xs) z) (sym same) (Contains-here z (filter p xs))
    step true e (inr there) later = Contains-later x (filter p xs) z (later there)
    step false e (inl same) later = let passes_too : p x ≡ true = subst (λ (w : X). p w ≡ true) (sym same) passes in absurd cc
    step false e (inr there) later = later there

pub Contains-from_filter : {X : Type 0} (p : X → Bool) (xs : List X) (z : X) → Contains (filter p xs) z → Contains xs z × (p z ≡ true)
Contains-from_filter {X = X} p xs z has =
    let P : X → Type 0 = λ x. p x ≡ true in
    (All-contains (Contains xs) (filter p xs) z (All-filter p (Contains xs) xs (All-contains_itself xs)) has, All-contains P (filter p xs) z (filter_passes p xs) has)

module _ (X : Type 0) (Before : X → X → Type 0) (once : (a b : X) → Before a b → Before b a → ⊥) where
  heads_are_one : (x y : X) (xs ys : List X) → AllPairs Before (x ∷ xs) → AllPairs Before (y ∷ ys) → Contains (y ∷ ys) x → Contains (x ∷ xs) y → x ≡ y
  heads_are_one x y xs ys rise others there back =
      elim (Contains-cases y ys x there) [
        | inl same ↦ sym same
        | inr later ↦ elim (Contains-cases x xs y back) [
          | inl same ↦ same
          | inr after ↦ absurd (once x y (All-contains (Before x) xs y (AllPairs-head Before x xs rise) after) (All-contains (Before y) ys x (AllPairs-head Before y ys others) later))
        ]
      ]

  rest_has : (x y z : X) (xs ys : List X) → x ≡ y → AllPairs Before (x ∷ xs) → Contains (y ∷ ys) z → Contains xs z → Contains ys z
  rest_has x y z xs ys same rise there here =
      elim (Contains-cases y ys z there) [
        | inl first ↦ (let self : Before x x = subst (Before x) (sym first ∙ sym same) (All-contains (Before x) xs z (AllPairs-head Before x xs rise) here) in absurd (once x x self self))
        | inr later ↦ later
      ]

  pub lists_are_one : (xs ys : List X) → AllPairs Before xs → AllPairs Before ys → ((z : X) → Contains xs z → Contains ys z) → ((z : X) → Contains ys z → Contains xs z) → xs ≡ ys
  lists_are_one [] [] rise others there back = refl
  lists_are_one [] (y ∷ ys) rise others there back = let none = (back y (Contains-here y ys)).1 in absurd (omega arith)
  lists_are_one (x ∷ xs) [] rise others there back = let none = (there x (Contains-here x xs)).1 in absurd (omega arith)
  lists_are_one (x ∷ xs) (y ∷ ys) rise others there back =
      let same : x ≡ y = heads_are_one x y xs ys rise others (there x (Contains-here x xs)) (back y (Contains-here y ys)) in
      ap₂ (λ h t. h ∷ t) same (lists_are_one xs ys (AllPairs-tail Before x xs rise) (AllPairs-tail Before y ys others)
      (λ z has. rest_has x y z xs ys same rise (there z (Contains-later x xs z has)) has)
      (λ z has. rest_has y x z ys xs (sym same) others (back z (Contains-later y ys z has)) has))
