-- Elements of lists that are built of others: filtered, joined, mapped, and found by a test.
use Rattle.std.proofs.Common.{◌≡◌, ◌⊎◌, inl, inr, zero, suc, Bool, true, false, List, [], ◌∷◌, ◌++◌, map, All, AllPairs, refl, sym, ap, ◌∙◌, subst, arith}
use Rattle.std.specs.Prelude.{Contains, not, ◌||◌, if◌then◌else◌, filter, flat_map}
use Rattle.std.specs.List.{list_any}
use Rattle.std.proofs.lemmas.List.Elements.{All-nil, All-cons, All-weaker, All-filter, All-contains_itself, Contains-append_left, Contains-append_right, Contains-append_cases}
use Rattle.head_laws.proofs.Numbers.{Contains-here, Contains-later, AllPairs-head, AllPairs-tail}

pub contains_cases : {X : Type 0} (y : X) (xs : List X) (x : X) → Contains (y ∷ xs) x → (y ≡ x) ⊎ Contains xs x
contains_cases y xs x (zero, less, same) = inl same
contains_cases y xs x (suc i, less, same) = inr (i, omega (arith, less), same)

pub contains_none : {X : Type 0} (x : X) → Contains [] x → ⊥
contains_none x (k, less, same) = absurd (omega (arith, less))

-- what is true of each element
pub all_elements : {X : Type 0} (P : X → Type 0) (xs : List X) → ((x : X) → Contains xs x → P x) → All P xs
all_elements P xs f = All-weaker (Contains xs) P f xs (All-contains_itself xs)

-- filtered lists
pub filtered_has : {X : Type 0} (test : X → Bool) (xs : List X) (x : X) → Contains xs x → test x ≡ true → Contains (filter test xs) x
filtered_has test [] x has is = has
filtered_has test (y ∷ xs) x has is = each (contains_cases y xs x has) (λ there. filtered_has test xs x there is)
  where
    each : (y ≡ x) ⊎ Contains xs x → (Contains xs x → Contains (filter test xs) x) → Contains (filter test (y ∷ xs)) x
    each (inl same) later = subst (λ b. Contains (if b then y ∷ filter test xs else filter test xs) x) (sym is ∙ ap test (sym same)) (subst (Contains (y ∷ filter test xs)) same (Contains-here y (filter test xs)))
    each (inr there) later = step (test y) (later there)
      where
        step : (b : Bool) → Contains (filter test xs) x → Contains (if b then y ∷ filter test xs else filter test xs) x
        step true p = Contains-later y (filter test xs) x p
        step false p = p

pub has_filtered : {X : Type 0} (test : X → Bool) (xs : List X) (x : X) → Contains (filter test xs) x → Contains xs x × (test x ≡ true)
has_filtered test [] x has = absurd (contains_none x has)
has_filtered test (y ∷ xs) x has = step (test y) refl has (has_filtered test xs x)
  where
    step : (b : Bool) → test y ≡ b → Contains (if b then y ∷ filter test xs else filter test xs) x → (Contains (filter test xs) x → Contains xs x × (test x ≡ true)) → Contains (y ∷ xs) x × (test x ≡ true)
    step true is p later = each (contains_cases y (filter test xs) x p)
      where
        each : (y ≡ x) ⊎ Contains (filter test xs) x → Contains (y ∷ xs) x × (test x ≡ true)
        each (inl same) = (subst (Contains (y ∷ xs)) same (Contains-here y xs), ap test (sym same) ∙ is)
        each (inr there) = let r = later there in (Contains-later y xs x r.0, r.1)
    step false is p later = let r = later p in (Contains-later y xs x r.0, r.1)

-- joined lists
abbrev pub joined : {X : Type 0} → List (List X) → List X
joined xss = flat_map (λ xs. xs) xss

pub joined_has : {X : Type 0} (xss : List (List X)) (xs : List X) (x : X) → Contains xss xs → Contains xs x → Contains (joined xss) x
joined_has [] xs x has is = absurd (contains_none xs has)
joined_has (ys ∷ xss) xs x has is = each (contains_cases ys xss xs has) (λ there. joined_has xss xs x there is)
  where
    each : (ys ≡ xs) ⊎ Contains xss xs → (Contains xss xs → Contains (joined xss) x) → Contains (ys ++ joined xss) x
    each (inl same) later = Contains-append_left ys (joined xss) x (subst (λ zs. Contains zs x) (sym same) is)
    each (inr there) later = Contains-append_right ys (joined xss) x (later there)

pub has_joined : {X : Type 0} (xss : List (List X)) (x : X) → Contains (joined xss) x → (xs : List X) × Contains xss xs × Contains xs x
has_joined [] x has = absurd (contains_none x has)
has_joined {X} (ys ∷ xss) x has = each (Contains-append_cases ys (joined xss) x has) (has_joined xss x)
  where
    each : Contains ys x ⊎ Contains (joined xss) x → (Contains (joined xss) x → (xs : List X) × Contains xss xs × Contains xs x) → (xs : List X) × Contains (ys ∷ xss) xs × Contains xs x
    each (inl here) later = (ys, Contains-here ys xss, here)
    each (inr there) later = let r = later there in (r.0, Contains-later ys xss r.0 r.1, r.2)

-- mapped lists
pub mapped_has : {X Y : Type 0} (f : X → Y) (xs : List X) (x : X) → Contains xs x → Contains (map f xs) (f x)
mapped_has f [] x has = absurd (contains_none x has)
mapped_has f (y ∷ xs) x has = each (contains_cases y xs x has) (mapped_has f xs x)
  where
    each : (y ≡ x) ⊎ Contains xs x → (Contains xs x → Contains (map f xs) (f x)) → Contains (f y ∷ map f xs) (f x)
    each (inl same) later = subst (λ z. Contains (f y ∷ map f xs) (f z)) same (Contains-here (f y) (map f xs))
    each (inr there) later = Contains-later (f y) (map f xs) (f x) (later there)

pub has_mapped : {X Y : Type 0} (f : X → Y) (xs : List X) (y : Y) → Contains (map f xs) y → (x : X) × Contains xs x × (f x ≡ y)
has_mapped f [] y has = absurd (contains_none y has)
has_mapped {X} f (z ∷ xs) y has = each (contains_cases (f z) (map f xs) y has) (has_mapped f xs y)
  where
    each : (f z ≡ y) ⊎ Contains (map f xs) y → (Contains (map f xs) y → (x : X) × Contains xs x × (f x ≡ y)) → (x : X) × Contains (z ∷ xs) x × (f x ≡ y)
    each (inl same) later = (z, Contains-here z xs, same)
    each (inr there) later = let r = later there in (r.0, Contains-later z xs r.0 r.1, r.2)

-- found by a test
pub any_found : {X : Type 0} (test : X → Bool) (xs : List X) → list_any test xs ≡ true → (x : X) × Contains xs x × (test x ≡ true)
any_found test [] is = absurd cc
any_found {X} test (y ∷ xs) is = step (test y) refl is (any_found test xs)
  where
    step : (b : Bool) → test y ≡ b → b || list_any test xs ≡ true → (list_any test xs ≡ true → (x : X) × Contains xs x × (test x ≡ true)) → (x : X) × Contains (y ∷ xs) x × (test x ≡ true)
    step true here e later = (y, Contains-here y xs, here)
    step false here e later = let r = later e in (r.0, Contains-later y xs r.0 r.1, r.2)

pub found_any : {X : Type 0} (test : X → Bool) (xs : List X) (x : X) → Contains xs x → test x ≡ true → list_any test xs ≡ true
found_any test [] x has is = absurd (contains_none x has)
found_any test (y ∷ xs) x has is = each (contains_cases y xs x has) (λ there. found_any test xs x there is)
  where
    each : (y ≡ x) ⊎ Contains xs x → (Contains xs x → list_any test xs ≡ true) → test y || list_any test xs ≡ true
    each (inl same) later = ap (λ b. b || list_any test xs) (ap test same ∙ is)
    each (inr there) later = step (test y)
      where
        step : (b : Bool) → b || list_any test xs ≡ true
        step true = refl
        step false = later there

-- Lists apart from each other that a test tells apart are apart.
pub apart_by_test : {X : Type 0} (R : X → X → Type 0) → ((x y : X) → R x y → R y x) → (test : X → Bool) (xs : List X) → AllPairs R xs → All (λ x. All (R x) (filter (λ y. not (test y)) xs)) (filter test xs)
apart_by_test R symmetric test [] pairs = All-nil (λ x. All (R x) [])
apart_by_test {X} R symmetric test (y ∷ xs) pairs = step (test y) (apart_by_test R symmetric test xs (AllPairs-tail R y xs pairs))
  where
    other : X → Bool
    other z = not (test z)

    step : (b : Bool) → All (λ x. All (R x) (filter other xs)) (filter test xs) →
        All (λ x. All (R x) (if not b then y ∷ filter other xs else filter other xs)) (if b then y ∷ filter test xs else filter test xs)
    step true later = All-cons (λ x. All (R x) (filter other xs)) y (filter test xs) (All-filter other (R y) xs (AllPairs-head R y xs pairs)) later
    step false later =
        all_elements (λ x. All (R x) (y ∷ filter other xs)) (filter test xs)
        (λ x has. All-cons (R x) y (filter other xs) (symmetric y x (element (R y) (filter test xs) (All-filter test (R y) xs (AllPairs-head R y xs pairs)) x has)) (element (λ z. All (R z) (filter other xs)) (filter test xs) later x has))
      where
        element : (P : X → Type 0) (zs : List X) → All P zs → (x : X) → Contains zs x → P x
        element P zs all x (k, less, same) = subst P same (all k x less)
