-- Numbers in lists: their places, those above all, and the way from places to numbers.
use Rattle.std.proofs.Common.{◌≡◌, ◌≢◌, ℕ, zero, suc, ◌+◌, ◌-◌, ◌<◌, ◌≤◌, max, Bool, true, false, Some, List, [], ◌∷◌, map, length, All, AllPairs, refl, sym, ap, ap₂, ◌∙◌, arith}
use Rattle.std.specs.Prelude.{Contains, nat_eq, if◌then◌else◌, slice_get}
use Rattle.std.specs.Prelude.{slice_index_or as get_or}
use Rattle.std.proofs.Math.Nat.{le-max_left, le-max_right}
use Rattle.std.proofs.lemmas.Bool.{eqb-true, eq-eqb, ne_eqb}
use Rattle.std.proofs.lemmas.List.Elements.{All-nil, All-cons, All-head, All-tail, All-weaker, All-contains}
use Rattle.lf_definitions.proofs.Options.{Some-Some}
use Rattle.lf_definitions.specs.GoalLists.{above}
use Rattle.lf_definitions.specs.Instantiation.{IsInjective}
use Rattle.head_laws.specs.Renumbering.{place_of_number, up_to}

pub Contains-here : {X : Type 0} (x : X) (xs : List X) → Contains (x ∷ xs) x
Contains-here x xs = (0, omega arith, refl)

pub Contains-later : {X : Type 0} (y : X) (xs : List X) (x : X) → Contains xs x → Contains (y ∷ xs) x
Contains-later y xs x has = let less = has.1 in (suc has.0, omega arith, has.2)

-- the greatest number
below_above : (ns : List ℕ) → All (λ n. n < above ns) ns
below_above [] = All-nil (λ n. n < above [])
below_above (m ∷ rest) =
    All-cons (λ n. n < max (suc m) (above rest)) m rest (omega (arith, le-max_left (suc m) (above rest)))
    (All-weaker (λ n. n < above rest) (λ n. n < max (suc m) (above rest)) (λ n less. let greater = le-max_right (suc m) (above rest) in omega arith) rest (below_above rest))

pub above-Contains : (ns : List ℕ) (n : ℕ) → Contains ns n → n < above ns
above-Contains ns n has = All-contains (λ m. m < above ns) ns n (below_above ns) has

pub All-below_above : (ns : List ℕ) (n : ℕ) → above ns ≤ n → All (λ m. m < n) ns
All-below_above ns n le = All-weaker (λ m. m < above ns) (λ m. m < n) (λ m less. omega arith) ns (below_above ns)

-- places and numbers
place_of_number-step : (m n : ℕ) (rest : List ℕ) (b : Bool) → nat_eq m n ≡ b → place_of_number (m ∷ rest) n ≡ (if b then zero else suc (place_of_number rest n))
place_of_number-step m n rest b e = ap (λ c. if c then zero else suc (place_of_number rest n)) e

-- The number at the place of a number that is there is this number.
pub up_to-place_of_number : (ns : List ℕ) (k n : ℕ) → Contains ns n → up_to ns k (place_of_number ns n) ≡ n
up_to-place_of_number [] k n has = let less = has.1 in absurd (omega arith)
up_to-place_of_number (m ∷ rest) k n has = each (nat_eq m n) refl (λ there. up_to-place_of_number rest k n there)
  where
    there_of : nat_eq m n ≡ false → (i : ℕ) → i < suc (length rest) → get_or (m ∷ rest) i n ≡ n → Contains rest n
    there_of e zero less same = let equal : nat_eq m n ≡ true = eq-eqb m n same in absurd cc
    there_of e (suc i) less same = (i, omega arith, same)

    each : (b : Bool) → nat_eq m n ≡ b → (Contains rest n → up_to rest k (place_of_number rest n) ≡ n) → up_to (m ∷ rest) k (place_of_number (m ∷ rest) n) ≡ n
    each true e later = ap (up_to (m ∷ rest) k) (place_of_number-step m n rest true e) ∙ eqb-true m n e
    each false e later = ap (up_to (m ∷ rest) k) (place_of_number-step m n rest false e) ∙ later (there_of e has.0 has.1 has.2)

-- Numbers that stay different are the same where they were.
pub nat_eq-map : (ρ : ℕ → ℕ) → IsInjective ρ → (m n : ℕ) → nat_eq (ρ m) (ρ n) ≡ nat_eq m n
nat_eq-map ρ injective m n = each (nat_eq m n) refl
  where
    differ : nat_eq m n ≡ false → m ≡ n → ⊥
    differ e q = let same : nat_eq m n ≡ true = eq-eqb m n q in cc

    each : (b : Bool) → nat_eq m n ≡ b → nat_eq (ρ m) (ρ n) ≡ nat_eq m n
    each true e = eq-eqb (ρ m) (ρ n) (ap ρ (eqb-true m n e)) ∙ sym e
    each false e = ne_eqb (ρ m) (ρ n) (λ q. differ e (injective m n q)) ∙ sym e

-- So they have the same places.
pub place_of_number-map : (ρ : ℕ → ℕ) → IsInjective ρ → (ns : List ℕ) (n : ℕ) → place_of_number (map ρ ns) (ρ n) ≡ place_of_number ns n
place_of_number-map ρ injective [] n = refl
place_of_number-map ρ injective (m ∷ rest) n =
    ap₂ (λ b k. if b then zero else suc k) (nat_eq-map ρ injective m n) (place_of_number-map ρ injective rest n)

-- numbers by their places
pub up_to-inside : (ns : List ℕ) (n i : ℕ) → i < length ns → slice_get ns i ≡ Some (up_to ns n i)
up_to-inside [] n i less = absurd (omega arith)
up_to-inside (m ∷ rest) n zero less = refl
up_to-inside (m ∷ rest) n (suc i) less = up_to-inside rest n i (omega arith)

pub up_to-outside : (ns : List ℕ) (n i : ℕ) → length ns ≤ i → up_to ns n i ≡ n + (i - length ns)
up_to-outside [] n i le = omega arith
up_to-outside (m ∷ rest) n zero le = absurd (omega arith)
up_to-outside (m ∷ rest) n (suc i) le = up_to-outside rest n i (omega arith) ∙ ap (λ k. n + k) (omega arith)

-- a number of the list, or one from `n` on
up_to-cases : (P : ℕ → Type 0) (ns : List ℕ) (n i : ℕ) → All P ns → ((k : ℕ) → n ≤ k → P k) → P (up_to ns n i)
up_to-cases P [] n i all past = past (n + i) (omega arith)
up_to-cases P (m ∷ rest) n zero all past = All-head P m rest all
up_to-cases P (m ∷ rest) n (suc i) all past = up_to-cases P rest n i (All-tail P m rest all) past

pub AllPairs-head : {X : Type 0} (R : X → X → Type 0) (x : X) (xs : List X) → AllPairs R (x ∷ xs) → All (R x) xs
AllPairs-head R x xs pairs j d within = pairs 0 (suc j) d (omega arith) (omega arith)

pub AllPairs-tail : {X : Type 0} (R : X → X → Type 0) (x : X) (xs : List X) → AllPairs R (x ∷ xs) → AllPairs R xs
AllPairs-tail R x xs pairs i j d less within = pairs (suc i) (suc j) d (omega arith) (omega arith)

first_apart : (m : ℕ) (rest : List ℕ) (n i : ℕ) → All (λ k. m ≢ k) rest → m < n → m ≢ up_to rest n i
first_apart m rest n i apart less = up_to-cases (λ k. m ≢ k) rest n i apart (λ k le e. omega arith)

pub up_to-injective : (ns : List ℕ) (n : ℕ) → AllPairs (λ m k. m ≢ k) ns → All (λ m. m < n) ns → IsInjective (up_to ns n)
up_to-injective [] n apart below i j e = omega arith
up_to-injective (m ∷ rest) n apart below zero zero e = refl
up_to-injective (m ∷ rest) n apart below zero (suc j) e =
    absurd (first_apart m rest n j (AllPairs-head (λ x y. x ≢ y) m rest apart) (All-head (λ k. k < n) m rest below) e)
up_to-injective (m ∷ rest) n apart below (suc i) zero e =
    absurd (first_apart m rest n i (AllPairs-head (λ x y. x ≢ y) m rest apart) (All-head (λ k. k < n) m rest below) (sym e))
up_to-injective (m ∷ rest) n apart below (suc i) (suc j) e =
    ap suc (up_to-injective rest n (AllPairs-tail (λ x y. x ≢ y) m rest apart) (All-tail (λ k. k < n) m rest below) i j e)

-- Where numbers differ, each has the place at which it stands.
pub place_of_number-at : (ns : List ℕ) (i : ℕ) (n : ℕ) → AllPairs (λ m k. m ≢ k) ns → i < length ns → slice_get ns i ≡ Some n → place_of_number ns n ≡ i
place_of_number-at [] i n apart less at_i = absurd (omega arith)
place_of_number-at (m ∷ rest) zero n apart less at_i = place_of_number-step m n rest true (eq-eqb m n (Some-Some at_i))
place_of_number-at (m ∷ rest) (suc i) n apart less at_i =
    let differ : m ≢ n = later rest i at_i (AllPairs-head (λ x y. x ≢ y) m rest apart) (omega arith) in
    place_of_number-step m n rest false (ne_eqb m n differ) ∙ ap suc (place_of_number-at rest i n (AllPairs-tail (λ x y. x ≢ y) m rest apart) (omega arith) at_i)
  where
    later : (xs : List ℕ) (k : ℕ) → slice_get xs k ≡ Some n → All (λ x. m ≢ x) xs → k < length xs → m ≢ n
    later [] k e all within = absurd (omega arith)
    later (x ∷ xs) zero e all within = λ q. All-head (λ y. m ≢ y) x xs all (q ∙ sym (Some-Some e))
    later (x ∷ xs) (suc k) e all within = later xs k e (All-tail (λ y. m ≢ y) x xs all) (omega arith)
