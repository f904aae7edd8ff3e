-- A derivation of a list that has a goal is one of each child of one of its branches.
use Rattle.std.proofs.Common.{◌≡◌, ◌≢◌, ℕ, suc, Some, List, [], map, sum, All, sym, ap, subst}
use Rattle.std.specs.Prelude.{slice_get}
use Rattle.std.proofs.lemmas.List.Elements.{All-map, All-weaker}
use Rattle.lf_definitions.specs.Signatures.{LfSignature}
use Rattle.lf_definitions.specs.GoalLists.{LfGoals, all_goals, next_id}
use Rattle.alternatives.specs.Rules.{LfRule}
use Rattle.alternatives.specs.Alternatives.{LfAlternative}
use Rattle.clusters.specs.Clusters.{clusters}
use Rattle.clusters.proofs.Laws.{clusters_are_shaped}
use Rattle.derivations.specs.Derivations.{alternatives_of}
use Rattle.derivations.specs.Unfolding.{branches_of}
use Rattle.shuffled_derivations.specs.Lengths.{Derives, DeriveEach}
use Rattle.shuffled_derivations.specs.Laws.{MayBeDerived, DerivationsAreOfChildren}
use Rattle.shuffled_derivations.proofs.Lists.{mapped_at, at_mapped}
use Rattle.shuffled_derivations.proofs.Alike.{may_be_expanded, all_after_may_be_derived, after_may_be_derived}
use Rattle.shuffled_derivations.proofs.Joined.{derivations_are_of_clusters}

-- an alternative as a branch
abbrev branch_of : LfAlternative → ℕ × List LfGoals
branch_of alternative = (alternative.percent, clusters alternative.goals)

module _ (sig : LfSignature) (rules : List LfRule) (list : LfGoals) (may : MayBeDerived sig rules list) where
  abbrev DerivesBranch : ℕ → List (ℕ × List LfGoals) → Type 0
  DerivesBranch n branches =
      (i percent : ℕ) × (children : List LfGoals) × (ns : List ℕ) × (slice_get branches i ≡ Some (percent, children)) × (sum ns ≡ n) × DeriveEach sig rules ns children

  after_may_be : (i : ℕ) (alternative : LfAlternative) → slice_get (alternatives_of sig rules list) i ≡ Some alternative → MayBeDerived sig rules alternative.goals
  after_may_be = after_may_be_derived sig rules (next_id list) list (may_be_expanded sig rules list may)

  to_branch : (n : ℕ) → Derives sig rules (suc n) list → DerivesBranch n (map branch_of (alternatives_of sig rules list))
  to_branch n d =
      let each = (derivations_are_of_clusters sig rules d.1.goals (after_may_be d.0 d.1 d.2) n).0 d.3 in
      (d.0, d.1.percent, clusters d.1.goals, each.0, mapped_at branch_of (alternatives_of sig rules list) d.0 d.1 d.2, each.1, each.2)

  from_branch : (n : ℕ) → DerivesBranch n (map branch_of (alternatives_of sig rules list)) → Derives sig rules (suc n) list
  from_branch n d =
      let found = at_mapped branch_of (alternatives_of sig rules list) d.0 (d.1, d.2) d.4 in
      let children : clusters found.0.goals ≡ d.2 = ap (λ (branch : ℕ × List LfGoals). branch.1) found.2 in
      (d.0, found.0, found.1, (derivations_are_of_clusters sig rules found.0.goals (after_may_be d.0 found.0 found.1) n).1 (d.3, d.5, subst (DeriveEach sig rules d.3) (sym children) d.6))

  abbrev IsGoodChild : LfGoals → Type 0
  IsGoodChild child = MayBeDerived sig rules child × (all_goals child ≢ [])

  good_children : All (λ (branch : ℕ × List LfGoals). All IsGoodChild branch.1) (map branch_of (alternatives_of sig rules list))
  good_children =
      All-map (λ (branch : ℕ × List LfGoals). All IsGoodChild branch.1) branch_of (alternatives_of sig rules list)
      (All-weaker (λ (x : LfAlternative). MayBeDerived sig rules x.goals) (λ (x : LfAlternative). All IsGoodChild (clusters x.goals)) children (alternatives_of sig rules list)
      (all_after_may_be_derived sig rules (next_id list) list (may_be_expanded sig rules list may)))
    where
      children : (x : LfAlternative) → MayBeDerived sig rules x.goals → All IsGoodChild (clusters x.goals)
      children x after =
          let good = clusters_are_shaped sig x.goals after.goals in
          λ k d less. let this = good k d less in (record { signature = may.signature; rules_take_atoms = may.rules_take_atoms; goals = this.0 }, this.1)

pub derivations_are_of_children : DerivationsAreOfChildren
unfolding branches_of
derivations_are_of_children sig rules list may some = (
  some,
  (λ n. (to_branch sig rules list may n, from_branch sig rules list may n)),
  good_children sig rules list may,
)
