-- Names of sets, one more at a time.
use Rattle.std.proofs.Common.{◌≡◌, ◌↔◌, ℕ, zero, suc, ◌+◌, ◌<◌, List, [], ◌∷◌, ◌++◌, length, get_or, take, refl, sym, subst, arith, ◌⊎◌, inl, inr}
use Rattle.std.specs.Prelude.{Contains, codes}
use Rattle.std.proofs.lemmas.List.Elements.{Contains-append_left, Contains-append_right, Contains-append_cases}
use Rattle.lf_terms.proofs.ShapeLists.{take_read}

is_one : {X : Type 0} (x y : X) → Contains (x ∷ []) y → x ≡ y
is_one x y (zero, within, e) = e
is_one x y (suc k, within, e) = absurd (omega arith)

-- The names are those of a list, and one more.
abbrev pub AreNames : List (List ℕ) → List (List ℕ) → Type 0
AreNames sets names = (name : List ℕ) → Contains names name ↔ (Contains sets name ⊎ (name ≡ codes "builtin"))

module _ (items names : List (List ℕ)) (i : ℕ) (set : List ℕ) (within : i < length items) (is : set ≡ get_or items i set) (so_far : AreNames (take i items) names) where
  split : (name : List ℕ) → Contains (take (i + 1) items) name → Contains (take i items) name ⊎ (set ≡ name)
  split name has =
      let P : List (List ℕ) → Type 0 = λ l. Contains l name in
      elim (Contains-append_cases (take i items) (set ∷ []) name (subst P (take_read items i set within is) has)) [ inl before ↦ inl before | inr here ↦ inr (is_one set name here) ]

  before_is : (name : List ℕ) → Contains (take i items) name → Contains (take (i + 1) items) name
  before_is name has =
      let P : List (List ℕ) → Type 0 = λ l. Contains l name in
      subst P (sym (take_read items i set within is)) (Contains-append_left (take i items) (set ∷ []) name has)

  here_is : Contains (take (i + 1) items) set
  here_is =
      let P : List (List ℕ) → Type 0 = λ l. Contains l set in
      subst P (sym (take_read items i set within is)) (Contains-append_right (take i items) (set ∷ []) set (0, omega arith, refl))

  pub name_had : Contains names set → AreNames (take (i + 1) items) names
  name_had had name = (
    λ has. elim ((so_far name).0 has) [ inl before ↦ inl (before_is name before) | inr built_in ↦ inr built_in ],
    λ s. elim s [
      | inl has ↦ elim (split name has) [ inl before ↦ (so_far name).1 (inl before) | inr here ↦ (let P : List ℕ → Type 0 = Contains names in subst P here had) ]
      | inr built_in ↦ (so_far name).1 (inr built_in)
    ],
  )

  pub name_added : (new : List (List ℕ)) (added : List ℕ) → added ≡ set → new ≡ names ++ added ∷ [] → AreNames (take (i + 1) items) new
  name_added new added same pushed =
      let Q : List (List ℕ) → Type 0 = AreNames (take (i + 1) items) in
      let R : List ℕ → Type 0 = λ x. AreNames (take (i + 1) items) (names ++ x ∷ []) in
      subst Q (sym pushed) (subst R (sym same) (λ name. (
        λ has. elim (Contains-append_cases names (set ∷ []) name has) [
          | inl old ↦ elim ((so_far name).0 old) [ inl before ↦ inl (before_is name before) | inr built_in ↦ inr built_in ]
          | inr here ↦ inl (let P : List ℕ → Type 0 = Contains (take (i + 1) items) in subst P (is_one set name here) here_is)
        ],
        λ s. elim s [
          | inl has ↦ elim (split name has) [
            | inl before ↦ Contains-append_left names (set ∷ []) name ((so_far name).1 (inl before))
            | inr here ↦ (let P : List ℕ → Type 0 = Contains (names ++ set ∷ []) in subst P here (Contains-append_right names (set ∷ []) set (0, omega arith, refl)))
          ]
          | inr built_in ↦ Contains-append_left names (set ∷ []) name ((so_far name).1 (inr built_in))
        ],
      )))

pub all_names : (items sets names : List (List ℕ)) (i : ℕ) → take i items ≡ sets → AreNames (take i items) names → AreNames sets names
all_names items sets names i all m = let P : List (List ℕ) → Type 0 = λ l. AreNames l names in subst P all m
