-- The places of names in a list that takes one more.
use Rattle.std.proofs.Common.{◌≡◌, ◌⊎◌, inl, inr, ℕ, suc, ◌+◌, Bool, true, false, cond, List, [], ◌∷◌, ◌++◌, length, Option, Some, None, refl, sym, ap, ◌∙◌, arith, ⊎_elim}
use Rattle.std.specs.Prelude.{◌≢◌}
use Rattle.std.specs.List.{position_from}
use Rattle.std.specs.Str.{bytes_eq}
use Rattle.std.proofs.lemmas.Bool.{cases_Bool, false≢true}
use Rattle.std.proofs.lemmas.Iterator.Adapters.{position_from-zero}
use Rattle.std.proofs.lemmas.Slice.Eq.{bytes_eq-Decides}
use Rattle.basics.specs.Places.{place_of}
use Rattle.basics.proofs.NamePlaces.{place_found}

kept : (b : Bool) (i p : ℕ) (old new : Option ℕ) → (old ≡ Some p → new ≡ Some p) → cond b (Some i) old ≡ Some p → cond b (Some i) new ≡ Some p
kept true i p old new stays e = e
kept false i p old new stays e = stays e

missed : (b : Bool) (i : ℕ) (old new found : Option ℕ) → (old ≡ None → new ≡ found) → cond b (Some i) old ≡ None → cond b (Some i) new ≡ found
missed true i old new found next e = absurd cc
missed false i old new found next e = next e

module _ (test : List ℕ → Bool) where
  found_before : (i p : ℕ) (names more : List (List ℕ)) → position_from test i names ≡ Some p → position_from test i (names ++ more) ≡ Some p
  found_before i p [] more e = absurd cc
  found_before i p (n ∷ names) more e = kept (test n) i p (position_from test (i + 1) names) (position_from test (i + 1) (names ++ more)) (found_before (i + 1) p names more) e

  found_last : (i : ℕ) (names : List (List ℕ)) (name : List ℕ) → test name ≡ true → position_from test i names ≡ None → position_from test i (names ++ name ∷ []) ≡ Some (i + length names)
  found_last i [] name is e = ap (λ b. cond b (Some i) None) is ∙ ap Some (omega arith)
  found_last i (n ∷ names) name is e =
      let last : (i + 1) + length names ≡ i + suc (length names) = omega arith in
      missed (test n) i (position_from test (i + 1) names) (position_from test (i + 1) (names ++ name ∷ [])) (Some (i + suc (length names)))
      (λ none. found_last (i + 1) names name is none ∙ ap Some last) e

  found_nowhere : (i : ℕ) (names : List (List ℕ)) (name : List ℕ) → test name ≡ false → position_from test i names ≡ None → position_from test i (names ++ name ∷ []) ≡ None
  found_nowhere i [] name is e = ap (λ b. cond b (Some i) None) is
  found_nowhere i (n ∷ names) name is e =
      missed (test n) i (position_from test (i + 1) names) (position_from test (i + 1) (names ++ name ∷ [])) None (found_nowhere (i + 1) names name is) e

from_zero : (names : List (List ℕ)) (name : List ℕ) → place_of names name ≡ position_from (bytes_eq name) 0 names
from_zero names name = position_from-zero (bytes_eq name) names

-- A name keeps its place.
pub place_stays : (names more : List (List ℕ)) (name : List ℕ) (p : ℕ) → place_of names name ≡ Some p → place_of (names ++ more) name ≡ Some p
place_stays names more name p e = from_zero (names ++ more) name ∙ found_before (bytes_eq name) 0 p names more (sym (from_zero names name) ∙ e)

-- A new name goes last.
pub place_last : (names : List (List ℕ)) (name : List ℕ) → place_of names name ≡ None → place_of (names ++ name ∷ []) name ≡ Some (length names)
place_last names name e =
    let last : 0 + length names ≡ length names = omega arith in
    from_zero (names ++ name ∷ []) name ∙ found_last (bytes_eq name) 0 names name ((bytes_eq-Decides name name).1 refl) (sym (from_zero names name) ∙ e) ∙ ap Some last

-- and no other with it.
place_other : (names : List (List ℕ)) (new name : List ℕ) → name ≢ new → place_of names name ≡ None → place_of (names ++ new ∷ []) name ≡ None
place_other names new name other e =
    from_zero (names ++ new ∷ []) name ∙ found_nowhere (bytes_eq name) 0 names new differ (sym (from_zero names name) ∙ e)
  where
    differ : bytes_eq name new ≡ false
    differ = ⊎_elim (λ same. absurd (other ((bytes_eq-Decides name new).0 same))) (λ differ. differ) (cases_Bool (bytes_eq name new))

-- What stands at a place of the longer list: what stood there, or the new name.
pub place_before : (names : List (List ℕ)) (new name : List ℕ) (p : ℕ) → place_of names new ≡ None → place_of (names ++ new ∷ []) name ≡ Some p →
    (place_of names name ≡ Some p) ⊎ ((name ≡ new) × (p ≡ length names))
place_before names new name p fresh e = by (place_of names name) refl
  where
    inj : {m n : ℕ} → ◌≡◌ {A = Option ℕ} (Some m) (Some n) → m ≡ n
    inj e = cc

    apart : {m : ℕ} → ◌≡◌ {A = Option ℕ} None (Some m) → ⊥
    apart e = cc

    at_last : bytes_eq name new ≡ true → (name ≡ new) × (p ≡ length names)
    at_last same =
        let is : name ≡ new = (bytes_eq-Decides name new).0 same in
        (is, inj (sym e ∙ ap (place_of (names ++ new ∷ [])) is ∙ place_last names new fresh))

    by : (found : Option ℕ) → place_of names name ≡ found → (place_of names name ≡ Some p) ⊎ ((name ≡ new) × (p ≡ length names))
    by (Some q) found = inl (found ∙ sym (place_stays names (new ∷ []) name q found) ∙ e)
    by None none =
        ⊎_elim (λ same. inr (at_last same)) (λ differ. absurd (apart (sym (place_other names new name (λ is. false≢true (sym differ ∙ (bytes_eq-Decides name new).1 is)) none) ∙ e)))
        (cases_Bool (bytes_eq name new))

-- Two names with one place are the same.
pub place_one : (names : List (List ℕ)) (name other : List ℕ) (p : ℕ) → place_of names name ≡ Some p → place_of names other ≡ Some p → name ≡ other
place_one names name other p e f = inj (sym (place_found name names p e) ∙ place_found other names p f)
  where
    inj : {a b : List ℕ} → ◌≡◌ {A = Option (List ℕ)} (Some a) (Some b) → a ≡ b
    inj e = cc
