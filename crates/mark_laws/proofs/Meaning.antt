-- What is proved has a derivation, and what is stuck has none.
use Rattle.std.proofs.Common.{◌≡◌, ℕ, zero, suc, List, [], ◌∷◌, ◌++◌, Option, Some, None, refl, sym, ap, subst, ◌∙◌}
use Rattle.std.specs.Prelude.{slice_get, sum, All}
use Rattle.std.proofs.lemmas.Option.{slice_get_within}
use Rattle.tree_runs.specs.Addresses.{Address, child_of, child_at, at_from, at, Proved, by_alternative, Stuck, by_choice}
use Rattle.tree_runs.proofs.Addresses.{at-step}
use Rattle.mark_laws.specs.Laws.{EachDerives, HasChildrenLaw}
use Rattle.mark_laws.proofs.Entries.{All-entry, entry_there}

-- what stands one step below an address whose branch is known
pub child_stands : {S : Type 0} (branches : S → List (ℕ × List S)) (root : S) (address : Address) (s : S) (i percent place : ℕ) (children : List S) (c : S) →
    at branches root address ≡ Some s → slice_get (branches s) i ≡ Some (percent, children) → slice_get children place ≡ Some c → at branches root (address ++ (i, place) ∷ []) ≡ Some c
child_stands branches root address s i percent place children c has branch there = at-step branches (Some root) address s i place has ∙ ap (λ o. child_of branches o place) branch ∙ there

module _ {S : Type 0} (Own : S → Type 0) (branches : S → List (ℕ × List S)) (Derives : ℕ → S → Type 0) (law : HasChildrenLaw Own branches Derives) where
  pub own_children_of : (s : S) → Own s → (i percent : ℕ) (children : List S) → slice_get (branches s) i ≡ Some (percent, children) → All Own children
  own_children_of s own i percent children e = All-entry (λ branch. All Own branch.1) (branches s) (law.own_children s own) i (percent, children) e

  own_child : (o : Option (ℕ × List S)) → ((branch : ℕ × List S) → o ≡ Some branch → All Own branch.1) → (place : ℕ) (c : S) → child_of branches o place ≡ Some c → Own c
  own_child None all place c e = absurd cc
  own_child (Some branch) all place c e = All-entry Own branch.1 (all branch refl) place c e

  own_from : (o : Option S) → ((s : S) → o ≡ Some s → Own s) → (address : Address) (s : S) → at_from branches o address ≡ Some s → Own s
  own_from None own address s e = absurd cc
  own_from (Some first) own [] s e = own s e
  own_from (Some first) own (step ∷ address) s e =
      own_from (child_at branches first step.0 step.1)
      (λ c f. own_child (slice_get (branches first) step.0) (λ branch b. own_children_of first (own first refl) step.0 branch.0 branch.1 b) step.1 c f)
      address s e

  -- where each child has a derivation, all have
  each_derives : (children : List S) → ((place : ℕ) (c : S) → slice_get children place ≡ Some c → (n : ℕ) × Derives n c) → (ns : List ℕ) × EachDerives Own branches Derives ns children
  each_derives [] each = ([], tt)
  each_derives (c ∷ children) each =
      let first = each 0 c refl in
      let rest = each_derives children (λ place d e. each (suc place) d e) in
      (first.0 ∷ rest.0, (first.1, rest.1))

  derivation_of : (ns : List ℕ) (children : List S) → EachDerives Own branches Derives ns children → (place : ℕ) (c : S) → slice_get children place ≡ Some c → (n : ℕ) × Derives n c
  derivation_of [] [] each place c e = absurd cc
  derivation_of [] (d ∷ children) each place c e = absurd each
  derivation_of (n ∷ ns) [] each place c e = absurd each
  derivation_of (n ∷ ns) (d ∷ children) each zero c e = let same : d ≡ c = cc in (n, subst (Derives n) same each.0)
  derivation_of (n ∷ ns) (d ∷ children) each (suc place) c e = derivation_of ns children each.1 place c e

  module _ (root : S) (own_root : Own root) (committed : List Address) where
    pub own_at : (address : Address) (s : S) → at branches root address ≡ Some s → Own s
    own_at address s e = own_from (Some root) (λ first same. (let is : root ≡ first = cc in subst Own is own_root)) address s e

    pub proved_derives : (address : Address) → Proved branches root committed address → (s : S) → at branches root address ≡ Some s → (n : ℕ) × Derives n s
    proved_derives _ (by_alternative address seen i percent children contains has branch below) s e =
        let twice : Some seen ≡ Some s = sym has ∙ e in
        let same : seen ≡ s = cc in
        let each = each_derives children (λ place c there.
        proved_derives (address ++ (i, place) ∷ []) (below place (address ++ (i, place) ∷ []) (slice_get_within children place c there) refl) c
        (child_stands branches root address seen i percent place children c has branch there)) in
        (suc (sum each.0), subst (Derives (suc (sum each.0))) same ((law.of_children seen (own_at address seen has) (sum each.0)).1 (i, percent, children, each.0, branch, refl, each.1)))

    pub stuck_refutes : (address : Address) → Stuck branches root committed address → (s : S) → at branches root address ≡ Some s → (n : ℕ) → Derives n s → ⊥
    stuck_refutes _ (by_choice address seen choice contains has within below) s e zero d = law.none_without_step s (own_at address s e) d
    stuck_refutes _ (by_choice address seen choice contains has within below) s e (suc n) d =
        let twice : Some s ≡ Some seen = sym e ∙ has in
        let same : s ≡ seen = cc in
        let parts = (law.of_children seen (own_at address seen has) n).0 (subst (Derives (suc n)) same d) in
        let low = within parts.0 parts.1 parts.2 parts.4 in
        let child = entry_there parts.2 (choice parts.0) low in
        let derivation = derivation_of parts.3 parts.2 parts.6 (choice parts.0) child.0 child.1 in
        stuck_refutes (address ++ (parts.0, choice parts.0) ∷ [])
        (below parts.0 (address ++ (parts.0, choice parts.0) ∷ []) (slice_get_within (branches seen) parts.0 (parts.1, parts.2) parts.4) refl) child.0
        (child_stands branches root address seen parts.0 parts.1 (choice parts.0) parts.2 child.0 has parts.4 child.1) derivation.0 derivation.1
