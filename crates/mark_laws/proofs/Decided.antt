-- A set with all addresses of a finite unfolding decides the root.
use Rattle.std.proofs.Common.{◌≡◌, ◌⊎◌, inl, inr, ℕ, zero, suc, ◌+◌, ◌<◌, ◌≤◌, List, [], ◌∷◌, ◌++◌, length, Some, sym, ap, subst, ◌∙◌, arith}
use Rattle.std.specs.Prelude.{slice_get}
use Rattle.std.specs.List.{Contains}
use Rattle.std.proofs.Math.ListN.{length-append}
use Rattle.std.proofs.lemmas.Option.{slice_get_within}
use Rattle.tree_runs.specs.Addresses.{Address, at, Proved, by_alternative, Stuck, by_choice}
use Rattle.mark_laws.proofs.Entries.{contains_cases, nothing_contained, entry_there}
use Rattle.mark_laws.proofs.Places.{everywhere_or_somewhere, chosen}
use Rattle.mark_laws.proofs.Meaning.{child_stands}

-- no address of a list is longer than all together
abbrev pub all_lengths : List Address → ℕ
all_lengths [] = 0
all_lengths (a ∷ addresses) = length a + all_lengths addresses

pub within_lengths : (addresses : List Address) (a : Address) → Contains addresses a → length a ≤ all_lengths addresses
within_lengths [] a c = absurd (nothing_contained a c)
within_lengths (b ∷ addresses) a c = elim (contains_cases b addresses a c) [
  | inl here ↦ let same : length b ≡ length a = ap length here in omega (arith, same)
  | inr later ↦ let low = within_lengths addresses a later in omega (arith, low)
]

module _ {S : Type 0} (branches : S → List (ℕ × List S)) (root : S) (committed : List Address) (all : (address : Address) (s : S) → at branches root address ≡ Some s → Contains committed address) where
  abbrev IsDecided : Address → Type 0
  IsDecided address = Proved branches root committed address ⊎ Stuck branches root committed address

  module _ (address : Address) (s : S) (has : at branches root address ≡ Some s) (below : (i place : ℕ) (c : S) → at branches root (address ++ (i, place) ∷ []) ≡ Some c → IsDecided (address ++ (i, place) ∷ [])) where
    -- an alternative with proved children only
    record IsGood (i : ℕ) : Type 0 where
      percent : ℕ
      children : List S
      branch : slice_get (branches s) i ≡ Some (percent, children)
      proved : (place : ℕ) → place < length children → Proved branches root committed (address ++ (i, place) ∷ [])

    -- the child of an alternative at this place is stuck
    record IsBadAt (i place : ℕ) : Type 0 where
      within : (percent : ℕ) (children : List S) → slice_get (branches s) i ≡ Some (percent, children) → place < length children
      stuck : Stuck branches root committed (address ++ (i, place) ∷ [])

    alternative_decided : (i : ℕ) → i < length (branches s) → ((place : ℕ) × IsBadAt i place) ⊎ IsGood i
    alternative_decided i low =
        let branch = entry_there (branches s) i low in
        elim (everywhere_or_somewhere (length branch.0.1) (λ place. Proved branches root committed (address ++ (i, place) ∷ [])) (λ place. Stuck branches root committed (address ++ (i, place) ∷ []))
        (λ place within.
        let c = entry_there branch.0.1 place within in
        below i place c.0 (child_stands branches root address s i branch.0.0 place branch.0.1 c.0 has branch.1 c.1))) [
          | inl proved ↦ inr (record { percent = branch.0.0; children = branch.0.1; branch = branch.1; proved = proved })
          | inr found ↦ inl (
            found.0,
            record {
              within = λ percent children e. (
                  let twice : Some branch.0 ≡ Some (percent, children) = sym branch.1 ∙ e in
                  let same : branch.0 ≡ (percent, children) = cc in
                  subst (λ (b : ℕ × List S). found.0 < length b.1) same found.1);
              stuck = found.2;
            },
          )
        ]

    proved_here : (i : ℕ) → IsGood i → Proved branches root committed address
    proved_here i good = by_alternative address s i good.percent good.children (all address s has) has good.branch
        (λ place child within is. subst (Proved branches root committed) (sym is) (good.proved place within))

    stuck_here : ((i : ℕ) → i < length (branches s) → (place : ℕ) × IsBadAt i place) → Stuck branches root committed address
    stuck_here bad =
        let choices = chosen (length (branches s)) IsBadAt bad in
        by_choice address s choices.0 (all address s has) has
        (λ i percent children e. (choices.1 i (slice_get_within (branches s) i (percent, children) e)).within percent children e)
        (λ i child low is. subst (Stuck branches root committed) (sym is) (choices.1 i low).stuck)

    node_decided : IsDecided address
    node_decided = elim (everywhere_or_somewhere (length (branches s)) (λ i. (place : ℕ) × IsBadAt i place) IsGood alternative_decided) [
      | inl bad ↦ inr (stuck_here bad)
      | inr good ↦ inl (proved_here good.0 good.2)
    ]

  pub decided_within : (left : ℕ) (address : Address) (s : S) → at branches root address ≡ Some s → all_lengths committed < length address + left → IsDecided address
  decided_within zero address s has high = absurd (let low = within_lengths committed address (all address s has) in omega (arith, low, high))
  decided_within (suc left) address s has high = node_decided address s has (λ i place c there.
      decided_within left (address ++ (i, place) ∷ []) c there (let size = length-append address ((i, place) ∷ []) in omega (arith, size, high)))
