-- Places of names in a list of values that hold them.
use Rattle.std.proofs.Common.{◌≡◌, ℕ, suc, ◌+◌, ◌<◌, Bool, true, false, cond, List, [], ◌∷◌, length, Some, None, refl, ap, arith, inl, inr, map}
use Rattle.std.specs.Prelude.{not, ◌||◌}
use Rattle.std.specs.List.{position, position_or_len, list_any, prefix_len}
use Rattle.std.proofs.lemmas.List.{length-map}
use Rattle.std.proofs.lemmas.Bool.{cases_Bool, lt-ltb}

pub prefix_len-map : {A B : Type 0} (p : B → Bool) (f : A → B) (xs : List A) → prefix_len p (map f xs) ≡ prefix_len (λ x. p (f x)) xs
prefix_len-map p f [] = refl
prefix_len-map p f (x ∷ xs) = ap (λ n. cond (p (f x)) (1 + n) 0) (prefix_len-map p f xs)

-- the place of the first that passes, among the images, is that of the first whose image passes
pub position-map : {A B : Type 0} (p : B → Bool) (f : A → B) (xs : List A) → position p (map f xs) ≡ position (λ x. p (f x)) xs
position-map p f xs = rw (prefix_len-map (λ x. not (p x)) f xs, length-map xs f) refl

found_step : (b : Bool) (m n : ℕ) (rest : Bool) → (rest ≡ true → m < n) → (b || rest) ≡ true → cond (not b) (1 + m) 0 < suc n
found_step true m n rest h e = omega arith
found_step false m n rest h e = let k : m < n = h e in omega arith

prefix_len-found : {A : Type 0} (p : A → Bool) (xs : List A) → list_any p xs ≡ true → prefix_len (λ x. not (p x)) xs < length xs
prefix_len-found p [] e = absurd cc
prefix_len-found p (x ∷ xs) e = found_step (p x) (prefix_len (λ y. not (p y)) xs) (length xs) (list_any p xs) (prefix_len-found p xs) e

-- where no element passes, none is found
pub list_any-from_none : {A : Type 0} (p : A → Bool) (xs : List A) → position p xs ≡ None → list_any p xs ≡ false
list_any-from_none p xs e =
    elim (cases_Bool (list_any p xs)) [
      | inl found ↦
          let here = lt-ltb _ _ (prefix_len-found p xs found) in
          let some : position p xs ≡ Some (position_or_len p xs) = ap (λ b. cond b (Some (position_or_len p xs)) None) here in
          absurd cc
      | inr none ↦ none
    ]
