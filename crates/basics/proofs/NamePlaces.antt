-- The places of names in a list of names.
use Rattle.std.proofs.Common.{◌≡◌, ℕ, zero, suc, ◌+◌, ◌<◌, Bool, true, false, cond, List, [], ◌∷◌, length, get_or, Some, None, refl, sym, ap, ◌∙◌, arith, inl, inr}
use Rattle.std.specs.Prelude.{◌≢◌, not, nat_lt, slice_get}
use Rattle.std.specs.Str.{bytes_eq}
use Rattle.std.specs.List.{position_or_len, All}
use Rattle.std.proofs.lemmas.Slice.Eq.{bytes_eq-Decides}
use Rattle.std.proofs.lemmas.Bool.{cases_Bool, lt-ltb}
use Rattle.std.proofs.lemmas.Option.{get_or_from_slice_get}
use borrow.Author.Tests.{ltb-true}
use Rattle.basics.specs.Places.{place_of}

abbrev first : List ℕ → List (List ℕ) → ℕ
first name names = position_or_len (bytes_eq name) names

found_step : (b : Bool) (name n : List ℕ) (m : ℕ) (ns : List (List ℕ)) → (b ≡ true → name ≡ n) → (m < length ns → slice_get ns m ≡ Some name) →
    cond (not b) (1 + m) 0 < suc (length ns) → slice_get (n ∷ ns) (cond (not b) (1 + m) 0) ≡ Some name
found_step true name n m ns same later less = ap Some (sym (same refl))
found_step false name n m ns same later less =
    let next : 1 + m ≡ suc m = omega arith in
    ap (slice_get (n ∷ ns)) next ∙ later (omega arith)

first_found : (name : List ℕ) (names : List (List ℕ)) → first name names < length names → slice_get names (first name names) ≡ Some name
first_found name [] less = absurd (omega arith)
first_found name (n ∷ ns) less = found_step (bytes_eq name n) name n (first name ns) ns (bytes_eq-Decides name n).0 (first_found name ns) less

missed_step : (b : Bool) (name n : List ℕ) (m k : ℕ) (d : List ℕ) (ns : List (List ℕ)) → (name ≡ n → b ≡ true) → ((m < length ns → ⊥) → (i : ℕ) → i < length ns → get_or ns i d ≢ name) →
    (cond (not b) (1 + m) 0 < suc (length ns) → ⊥) → k < suc (length ns) → get_or (n ∷ ns) k d ≢ name
missed_step true name n m k d ns same later none less e = none (omega arith)
missed_step false name n m zero d ns same later none less e = let clash : false ≡ true = same (sym e) in cc
missed_step false name n m (suc k) d ns same later none less e = later (λ h. none (omega arith)) k (omega arith) e

missed : (name : List ℕ) (names : List (List ℕ)) (d : List ℕ) → (first name names < length names → ⊥) → (k : ℕ) → k < length names → get_or names k d ≢ name
missed name [] d none k less e = absurd (omega arith)
missed name (n ∷ ns) d none k less e =
    missed_step (bytes_eq name n) name n (first name ns) k d ns (bytes_eq-Decides name n).1 (missed name ns d) none less e

some_place : (b : Bool) (m p : ℕ) → cond b (Some m) None ≡ Some p → (b ≡ true) × (m ≡ p)
some_place true m p e = (refl, cc)
some_place false m p e = absurd cc

-- the name at the place where a name is found
pub place_found : (name : List ℕ) (names : List (List ℕ)) (p : ℕ) → place_of names name ≡ Some p → slice_get names p ≡ Some name
place_found name names p e =
    let found = some_place (nat_lt (first name names) (length names)) (first name names) p e in
    ap (slice_get names) (sym found.1) ∙ first_found name names (ltb-true _ _ found.0)

-- a name that is not found is no name of the list
pub place_absent : (name : List ℕ) (names : List (List ℕ)) → place_of names name ≡ None → All (λ other. other ≢ name) names
place_absent name names e k d less = missed name names d none k less
  where
    none : first name names < length names → ⊥
    none h =
        let here : nat_lt (first name names) (length names) ≡ true = lt-ltb _ _ h in
        let some : place_of names name ≡ Some (first name names) = ap (λ b. cond b (Some (first name names)) None) here in
        cc

-- and a name that is none of the list is not found
pub place_new : (name : List ℕ) (names : List (List ℕ)) → All (λ other. other ≢ name) names → place_of names name ≡ None
place_new name names new =
    elim (cases_Bool (nat_lt (first name names) (length names))) [
      | inl here ↦
          let less : first name names < length names = ltb-true _ _ here in
          absurd (new (first name names) name less (get_or_from_slice_get names (first name names) name name (first_found name names less)))
      | inr none ↦ ap (λ b. cond b (Some (first name names)) None) none
    ]
