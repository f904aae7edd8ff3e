-- Lists that are made of others, and what is found in a list.
use Rattle.std.proofs.Common.{◌≡◌, ℕ, zero, suc, Bool, true, false, cond, Some, List, [], ◌∷◌, ◌++◌, map, All, AllPairs, find, flat_map, refl, ap, ◌∙◌, subst}
use Rattle.std.specs.Prelude.{slice_get}
use Rattle.std.proofs.lemmas.List.Elements.{All-nil, All-cons, All-head, All-tail, All-append, All-weaker}
use Rattle.std.proofs.lemmas.List.Kept.{AllPairs-cons}
use Rattle.std.proofs.lemmas.Option.{slice_get_within, get_or_from_slice_get}
use Rattle.lf_definitions.proofs.Options.{Some-Some}
use Rattle.head_laws.proofs.Numbers.{AllPairs-head, AllPairs-tail}
use Rattle.applications.proofs.Pairs.{no_pair, AllPairs-append}

pub flat_map_none : {A B : Type 0} (f : A → List B) → ((x : A) → f x ≡ []) → (xs : List A) → flat_map f xs ≡ []
flat_map_none f none [] = refl
flat_map_none f none (x ∷ xs) = ap (λ ys. ys ++ flat_map f xs) (none x) ∙ flat_map_none f none xs

pub All-flat_map : {A B : Type 0} (P : B → Type 0) (f : A → List B) (xs : List A) → All (λ x. All P (f x)) xs → All P (flat_map f xs)
All-flat_map P f [] all = All-nil P
All-flat_map P f (x ∷ xs) all = All-append P (f x) (flat_map f xs) (All-head (λ y. All P (f y)) x xs all) (All-flat_map P f xs (All-tail (λ y. All P (f y)) x xs all))

-- what is true of the images is true of the elements by their images
pub All-of_map : {A B : Type 0} (P : B → Type 0) (f : A → B) (xs : List A) → All P (map f xs) → All (λ x. P (f x)) xs
All-of_map P f [] all = All-nil (λ x. P (f x))
All-of_map P f (x ∷ xs) all = All-cons (λ y. P (f y)) x xs (All-head P (f x) (map f xs) all) (All-of_map P f xs (All-tail P (f x) (map f xs) all))

pub AllPairs-of_map : {A B : Type 0} (R : B → B → Type 0) (f : A → B) (xs : List A) → AllPairs R (map f xs) → AllPairs (λ x y. R (f x) (f y)) xs
AllPairs-of_map R f [] pairs = no_pair (λ x y. R (f x) (f y))
AllPairs-of_map R f (x ∷ xs) pairs =
    AllPairs-cons (λ y z. R (f y) (f z)) x xs (All-of_map (R (f x)) f xs (AllPairs-head R (f x) (map f xs) pairs)) (AllPairs-of_map R f xs (AllPairs-tail R (f x) (map f xs) pairs))

-- Lists joined, each of which belongs to an element: the elements differ, or what differs in one list.
module _ {A B : Type 0} (S : A → A → Type 0) (R : B → B → Type 0) (Belongs : A → B → Type 0) (across : (x y : A) (b c : B) → S x y → Belongs x b → Belongs y c → R b c) (f : A → List B)
    (belong : (x : A) → All (Belongs x) (f x)) (inside : (x : A) → AllPairs R (f x))
  where
    later_differ : (x : A) (b : B) → Belongs x b → (ys : List A) → All (S x) ys → All (R b) (flat_map f ys)
    later_differ x b own ys all =
        All-flat_map (R b) f ys
        (All-weaker (S x) (λ y. All (R b) (f y)) (λ y s. All-weaker (Belongs y) (R b) (λ c owned. across x y b c s own owned) (f y) (belong y)) ys all)

    pub AllPairs-flat_map : (xs : List A) → AllPairs S xs → AllPairs R (flat_map f xs)
    AllPairs-flat_map [] pairs = no_pair R
    AllPairs-flat_map (x ∷ xs) pairs =
        AllPairs-append R (f x) (flat_map f xs) (inside x) (AllPairs-flat_map xs (AllPairs-tail S x xs pairs))
        (All-weaker (Belongs x) (λ b. All (R b) (flat_map f xs)) (λ b own. later_differ x b own xs (AllPairs-head S x xs pairs)) (f x) (belong x))

-- An element that passes is found where none before it does: here, where two that are related don't both pass.
pub find_only : {X : Type 0} (R : X → X → Type 0) (test : X → Bool) (xs : List X) (i : ℕ) (x : X) → AllPairs R xs → ((y : X) → test y ≡ true → R y x → ⊥) → slice_get xs i ≡ Some x → test x ≡ true →
    find test xs ≡ Some x
find_only R test [] i x pairs apart there passes = absurd cc
find_only R test (y ∷ ys) zero x pairs apart there passes = ap (λ b. cond b (Some y) (find test ys)) (ap test (Some-Some there) ∙ passes) ∙ there
find_only R test (y ∷ ys) (suc i) x pairs apart there passes = step (test y) refl (find_only R test ys i x (AllPairs-tail R y ys pairs) apart there passes)
  where
    related : R y x
    related = let within = slice_get_within ys i x there in subst (R y) (get_or_from_slice_get ys i x x there) (AllPairs-head R y ys pairs i x within)

    step : (b : Bool) → test y ≡ b → find test ys ≡ Some x → cond b (Some y) (find test ys) ≡ Some x
    step true is later = absurd (apart y is related)
    step false is later = later
