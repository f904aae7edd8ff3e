-- What lists contain: one item more, a map over a list, and that a list of different items is no longer than one that contains them all.
use Rattle.std.proofs.Common.{◌≡◌, ◌≢◌, ◌⊎◌, inl, inr, ℕ, zero, suc, ◌<◌, ◌≤◌, List, [], ◌∷◌, map, length, get_or, Some, refl, sym, ap, subst, ◌∙◌, arith}
use Rattle.std.specs.Prelude.{slice_get, All, AllPairs}
use Rattle.std.specs.List.{Contains}
use Rattle.std.proofs.Math.Path.{ap₂}
use Rattle.std.proofs.lemmas.List.Elements.{All-head, All-tail}
use Rattle.tree_runs.specs.Addresses.{Address}
use Rattle.tree_runs.proofs.Lists.{same_or_other}

pub contains_first : {X : Type 0} (xs : List X) (x : X) → Contains (x ∷ xs) x
contains_first xs x = (0, omega arith, refl)

pub contains_later : {X : Type 0} (y : X) (xs : List X) (x : X) → Contains xs x → Contains (y ∷ xs) x
contains_later y xs x c = (suc c.0, (let low = c.1 in omega (arith, low)), c.2)

pub contains_cases : {X : Type 0} (y : X) (xs : List X) (x : X) → Contains (y ∷ xs) x → (y ≡ x) ⊎ Contains xs x
contains_cases {X} y xs x c = at_place c.0 c.1 c.2
  where
    at_place : (k : ℕ) → k < length (y ∷ xs) → get_or (y ∷ xs) k x ≡ x → (y ≡ x) ⊎ Contains xs x
    at_place zero low e = inl e
    at_place (suc k) low e = inr (k, omega arith, e)

pub nothing_contained : {X : Type 0} (x : X) → Contains [] x → ⊥
nothing_contained x c = let low = c.1 in absurd (omega (arith, low))

-- ---- maps

pub contains_image : {X Y : Type 0} (f : X → Y) (xs : List X) (x : X) → Contains xs x → Contains (map f xs) (f x)
contains_image f [] x c = absurd (nothing_contained x c)
contains_image f (y ∷ xs) x c = elim (contains_cases y xs x c) [
  | inl here ↦ (0, omega arith, ap f here)
  | inr rest ↦ contains_later (f y) (map f xs) (f x) (contains_image f xs x rest)
]

pub record IsImage {X Y : Type 0} (f : X → Y) (xs : List X) (y : Y) : Type 0 where
  pub item : X
  pub contained : Contains xs item
  pub image : f item ≡ y

pub is_image : {X Y : Type 0} (f : X → Y) (xs : List X) (y : Y) → Contains (map f xs) y → IsImage f xs y
is_image f [] y c = absurd (nothing_contained y c)
is_image f (x ∷ xs) y c = elim (contains_cases (f x) (map f xs) y c) [
  | inl here ↦ record { item = x; contained = contains_first xs x; image = here }
  | inr rest ↦ let found = is_image f xs y rest in record { item = found.item; contained = contains_later x xs found.item found.contained; image = found.image }
]

-- ---- entries by their places

pub All-entry : {X : Type 0} (P : X → Type 0) (xs : List X) → All P xs → (i : ℕ) (x : X) → slice_get xs i ≡ Some x → P x
All-entry P [] all i x e = absurd cc
All-entry P (y ∷ xs) all zero x e = let same : y ≡ x = cc in subst P same (All-head P y xs all)
All-entry P (y ∷ xs) all (suc i) x e = All-entry P xs (All-tail P y xs all) i x e

pub entry_there : {X : Type 0} (xs : List X) (i : ℕ) → i < length xs → (x : X) × (slice_get xs i ≡ Some x)
entry_there [] i low = absurd (omega arith)
entry_there (x ∷ xs) zero low = (x, refl)
entry_there (x ∷ xs) (suc i) low = entry_there xs i (omega arith)

-- ---- different items

later_differ : {X : Type 0} (x : X) (xs : List X) → AllPairs (λ a b. a ≢ b) (x ∷ xs) → (y : X) → Contains xs y → x ≢ y
later_differ x xs differ y c = λ e. differ 0 (suc c.0) y (omega arith) (let low = c.1 in omega (arith, low)) (e ∙ sym c.2)

rest_differ : {X : Type 0} (x : X) (xs : List X) → AllPairs (λ a b. a ≢ b) (x ∷ xs) → AllPairs (λ a b. a ≢ b) xs
rest_differ x xs differ = λ i j d below within. differ (suc i) (suc j) d (omega arith) (omega arith)

-- a list without one of its items
record Without {X : Type 0} (xs : List X) (x : X) : Type 0 where
  rest : List X
  size : length xs ≡ suc (length rest)
  others : (y : X) → x ≢ y → Contains xs y → Contains rest y

without : {X : Type 0} (xs : List X) (x : X) → Contains xs x → Without xs x
without [] x c = absurd (nothing_contained x c)
without (y ∷ xs) x c = elim (contains_cases y xs x c) [
  | inl here ↦ record {
    rest = xs;
    size = refl;
    others = λ z ne d. elim (contains_cases y xs z d) [ inl same ↦ absurd (ne (sym here ∙ same)) | inr later ↦ later ];
  }
  | inr later ↦ let w = without xs x later in record {
    rest = y ∷ w.rest;
    size = ap suc w.size;
    others = λ z ne d. elim (contains_cases y xs z d) [
      | inl same ↦ (0, omega arith, same)
      | inr there ↦ contains_later y w.rest z (w.others z ne there)
    ];
  }
]

pub no_longer : {X : Type 0} (xs ys : List X) → AllPairs (λ a b. a ≢ b) xs → ((x : X) → Contains xs x → Contains ys x) → length xs ≤ length ys
no_longer [] ys differ among = omega arith
no_longer (x ∷ xs) ys differ among =
    let w = without ys x (among x (contains_first xs x)) in
    let rest = no_longer xs w.rest (rest_differ x xs differ) (λ y c. w.others y (later_differ x xs differ y c) (among y (contains_later x xs y c))) in
    omega (arith, rest, w.size)

same_default : {X : Type 0} (xs : List X) (j : ℕ) (d e : X) → j < length xs → get_or xs j d ≡ get_or xs j e
same_default [] j d e low = absurd (omega arith)
same_default (x ∷ xs) zero d e low = refl
same_default (x ∷ xs) (suc j) d e low = same_default xs j d e (omega arith)

one_more : {X : Type 0} (x : X) (xs : List X) → AllPairs (λ a b. a ≢ b) xs → (Contains xs x → ⊥) → AllPairs (λ a b. a ≢ b) (x ∷ xs)
one_more x xs differ new zero zero d below within = absurd (omega arith)
one_more x xs differ new zero (suc j) d below within = λ e. new (j, omega arith, same_default xs j x d (omega arith) ∙ sym e)
one_more x xs differ new (suc i) zero d below within = absurd (omega arith)
one_more x xs differ new (suc i) (suc j) d below within = differ i j d (omega arith) (omega arith)

-- ---- addresses are compared

same_address : (a b : Address) → (a ≡ b) ⊎ (a ≢ b)
same_address [] [] = inl refl
same_address [] (y ∷ b) = inr (λ e. cc)
same_address (x ∷ a) [] = inr (λ e. cc)
same_address (x ∷ a) (y ∷ b) = elim (same_or_other x.0 y.0) [
  | inr ne ↦ inr (λ e. ne (let same : x ≡ y = cc in ap (λ (step : ℕ × ℕ). step.0) same))
  | inl alternative ↦ elim (same_or_other x.1 y.1) [
    | inr ne ↦ inr (λ e. ne (let same : x ≡ y = cc in ap (λ (step : ℕ × ℕ). step.1) same))
    | inl place ↦ elim (same_address a b) [
      | inr ne ↦ inr (λ e. ne (let same : a ≡ b = cc in same))
      | inl rest ↦ inl (let same : x ≡ y = ap₂ (λ (m n : ℕ). (m, n)) alternative place in cc)
    ]
  ]
]

contains_or_not : (xs : List Address) (a : Address) → Contains xs a ⊎ (Contains xs a → ⊥)
contains_or_not [] a = inr (nothing_contained a)
contains_or_not (x ∷ xs) a = elim (same_address x a) [
  | inl here ↦ inl (0, omega arith, here)
  | inr ne ↦ elim (contains_or_not xs a) [
    | inl later ↦ inl (contains_later x xs a later)
    | inr none ↦ inr (λ c. elim (contains_cases x xs a c) [ inl here ↦ ne here | inr later ↦ none later ])
  ]
]

-- as many different addresses of a list as it has at all are all of them
pub all_of_them : (xs ys : List Address) → AllPairs (λ a b. a ≢ b) xs → ((a : Address) → Contains xs a → Contains ys a) → length ys ≤ length xs → (a : Address) → Contains ys a → Contains xs a
all_of_them xs ys differ among size a there = elim (contains_or_not xs a) [
  | inl c ↦ c
  | inr new ↦
      let more = no_longer (a ∷ xs) ys (one_more a xs differ new) (λ b c. elim (contains_cases a xs b c) [ inl same ↦ subst (Contains ys) same there | inr later ↦ among b later ]) in
      absurd (omega (arith, more))
]
