-- What is known of the addresses that goals carry, and where an alternative of the goals that carry one address comes from.
use Rattle.std.proofs.Common.{◌≡◌, ℕ, Bool, true, not, Some, List, sym, ap, ◌∙◌, subst}
use Rattle.std.specs.Prelude.{slice_get}
use Rattle.std.specs.List.{Contains}
use Rattle.lf_definitions.specs.Syntax.{metavariable, LfType}
use Rattle.lf_definitions.specs.Occurrence.{OccursInGoal}
use Rattle.lf_definitions.specs.Typing.{LfGoal}
use Rattle.lf_definitions.specs.Signatures.{LfSignature}
use Rattle.lf_definitions.specs.GoalLists.{LfGoals, all_goals, first_goal, next_id}
use Rattle.application_laws.specs.Conditions.{goals_inside}
use Rattle.alternatives.specs.Rules.{LfRule}
use Rattle.alternatives.specs.Alternatives.{LfAlternative}
use Rattle.alternatives.specs.Taking.{Takes}
use Rattle.alternatives.specs.Steps.{AreOldOrNew}
use Rattle.taken_alternatives.proofs.Laws.{alternatives_are_reached}
use Rattle.clusters.specs.Clusters.{clusters}
use Rattle.clusters.specs.Links.{outside_of, Splits}
use Rattle.clusters.proofs.Elements.{all_elements}
use Rattle.clusters.proofs.Renamed.{clusters_forget_numbers}
use Rattle.renamed_alternatives.specs.Laws.{rename_alternative}
use Rattle.framed_alternatives.specs.Laws.{with_fresh, BeginsApart, StaysApart, inside_alternative}
use Rattle.carried_alternatives.specs.Laws.{inside_by_place, back_into}
use Rattle.carried_alternatives.proofs.CarriedOver.{alternatives_are_carried_over}
use Rattle.derivations.specs.Derivations.{alternatives_of}
use Rattle.derivations.specs.Unfolding.{branches_of, goals_at}
use Rattle.tree_runs.specs.Addresses.{Address}
use Rattle.shuffled_derivations.specs.Laws.{MayBeDerived}
use Rattle.shuffled_derivations.proofs.Lists.{mapped_at, at_mapped, All-at}
use Rattle.shuffled_derivations.proofs.Alike.{may_be_expanded}
use Rattle.answer_definitions.specs.Chosen.{same_address}
use Rattle.chosen_scripts.proofs.Addresses.{own_address}

-- The numbers that carry an address.
abbrev pub carries : (ℕ → Address) → Address → ℕ → Bool
carries carried address m = same_address (carried m) address

-- an entry of the branches of a list
pub alternative_of_branch : (sig : LfSignature) (rules : List LfRule) (list : LfGoals) (i : ℕ) (branch : ℕ × List LfGoals) → slice_get (branches_of sig rules list) i ≡ Some branch →
    (x : LfAlternative) × (slice_get (alternatives_of sig rules list) i ≡ Some x) × (clusters x.goals ≡ branch.1)
unfolding branches_of
alternative_of_branch sig rules list i branch there =
    let found = at_mapped (λ (x : LfAlternative). (x.percent, clusters x.goals)) (alternatives_of sig rules list) i branch there in
    (found.0, found.1, ap (λ (b : ℕ × List LfGoals). b.1) found.2)

module _ (sig : LfSignature) (rules : List LfRule) (a : LfType) (proved : Address → Bool) where
  -- At the address of a goal stand the goals that carry it, and it is proved.
  pub record Stands (list : LfGoals) (carried : ℕ → Address) (h : LfGoal) : Type 0 where
    pub there : goals_at sig rules a (carried h.id) ≡ Some (inside_by_place (carries carried (carried h.id)) list)
    pub is_proved : proved (carried h.id) ≡ true

  -- The list may be derived, what a goal mentions carries its address, and so it is for each goal.
  pub record IsCarried (list : LfGoals) (carried : ℕ → Address) : Type 0 where
    pub may : MayBeDerived sig rules list
    pub mention : (h : LfGoal) → Contains (all_goals list) h → (m : ℕ) → OccursInGoal (metavariable m) h → carried m ≡ carried h.id
    pub stand : (h : LfGoal) → Contains (all_goals list) h → Stands list carried h

  -- The goals that carry the first goal's address.
  module _ (list : LfGoals) (carried : ℕ → Address) (known : IsCarried list carried) (g : LfGoal) (first : first_goal list ≡ Some g) where
    abbrev pub within : ℕ → Bool
    within = carries carried (carried g.id)

    abbrev pub wider : ℕ → Bool
    wider = with_fresh within (next_id list)

    splits : Splits within (all_goals list)
    splits = (
      all_elements (λ h. within h.id ≡ true → (m : ℕ) → OccursInGoal (metavariable m) h → within m ≡ true) (all_goals list)
          (λ h has is m o. ap (λ d. same_address d (carried g.id)) (known.mention h has m o) ∙ is),
      all_elements (λ h. outside_of within h.id ≡ true → (m : ℕ) → OccursInGoal (metavariable m) h → outside_of within m ≡ true) (all_goals list)
          (λ h has is m o. ap (λ d. not (same_address d (carried g.id))) (known.mention h has m o) ∙ is),
    )

    begins : BeginsApart sig rules (next_id list) within list
    begins = record { may_be_expanded = may_be_expanded sig rules list known.may; splits = splits; first_is_inside = (g, first, own_address (carried g.id)) }

    -- An alternative of these goals is one of the list, with the same clusters inside.
    pub record IsEntry (i : ℕ) (children : List LfGoals) : Type 0 where
      pub alternative : LfAlternative
      pub there : slice_get (alternatives_of sig rules list) i ≡ Some alternative
      pub same_clusters : clusters (goals_inside wider alternative.goals) ≡ children
      pub stays : StaysApart (next_id list) within list alternative.goals
      pub old_or_new : AreOldOrNew list (next_id list) alternative.goals
      pub may : MayBeDerived sig rules alternative.goals

    pub entry_of : (i : ℕ) (branch : ℕ × List LfGoals) → slice_get (branches_of sig rules (inside_by_place within list)) i ≡ Some branch → IsEntry i branch.1
    entry_of i branch there =
        let part = inside_by_place within list in
        let back = back_into within list in
        let found = alternative_of_branch sig rules part i branch there in
        let over = alternatives_are_carried_over sig rules within list begins in
        let all = alternatives_of sig rules list in
        let moved = mapped_at (rename_alternative back) (alternatives_of sig rules part) i found.0 found.1 in
        let entry = at_mapped (inside_alternative wider) all i (rename_alternative back found.0) (subst (λ xs. slice_get xs i ≡ Some (rename_alternative back found.0)) (sym over.2) moved) in
        let reached = All-at (λ (x : LfAlternative). Takes sig list x.goals x.build × AreOldOrNew list (next_id list) x.goals) all
        (alternatives_are_reached sig rules (next_id list) list begins.may_be_expanded) i entry.0 entry.1 in
        record {
          alternative = entry.0;
          there = entry.1;
          same_clusters = ap (λ (x : LfAlternative). clusters x.goals) entry.2 ∙ (clusters_forget_numbers back over.0 found.0.goals ∙ found.2);
          stays = All-at (λ (x : LfAlternative). StaysApart (next_id list) within list x.goals) all over.3 i entry.0 entry.1;
          old_or_new = reached.1;
          may = record { signature = known.may.signature; rules_take_atoms = known.may.rules_take_atoms; goals = reached.0.shaped };
        }
