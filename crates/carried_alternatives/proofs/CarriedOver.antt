-- Alternatives of a list come from those of the goals inside, numbered by their places.
use Rattle.std.proofs.Common.{◌≡◌, ℕ, ◌<◌, Bool, true, List, All, sym, ◌∙◌, subst}
use Rattle.std.proofs.lemmas.List.Elements.{All-weaker}
use Rattle.lf_definitions.specs.ShapedGoals.{ShapedGoals}
use Rattle.lf_definitions.specs.Signatures.{LfSignature}
use Rattle.lf_definitions.specs.GoalLists.{LfGoals, all_goals, next_id}
use Rattle.application_laws.specs.Conditions.{goals_inside}
use Rattle.application_laws.proofs.Inside.{All-inside, goals_inside_are_shaped}
use Rattle.alternatives.specs.Rules.{LfRule}
use Rattle.clusters.proofs.Laws.{inside_parts}
use Rattle.framed_alternatives.specs.Laws.{BeginsApart}
use Rattle.framed_alternatives.proofs.Laws.{alternatives_are_framed}
use Rattle.carried_alternatives.specs.Laws.{AlternativesAreCarriedOver}
use Rattle.carried_alternatives.proofs.NumberedBack.{goes_back, alternatives_come_back}

module _ (sig : LfSignature) (rules : List LfRule) (n : ℕ) (within : ℕ → Bool) (list : LfGoals) (begins : BeginsApart sig rules n within list) where
  shaped_inside : ShapedGoals sig (all_goals (goals_inside within list))
  shaped_inside =
      subst (ShapedGoals sig) (inside_parts within list.proofs list.witnesses) (goals_inside_are_shaped sig (all_goals list) within begins.may_be_expanded.goals begins.splits.0)

  below_inside : All (λ h. h.id < n) (all_goals (goals_inside within list))
  below_inside =
      subst (All (λ h. h.id < n)) (inside_parts within list.proofs list.witnesses)
      (All-inside within (λ h. h.id < n) (all_goals list) (All-weaker (λ h. h.id < n) (λ h. within h.id ≡ true → h.id < n) (λ h less is. less) (all_goals list) begins.may_be_expanded.below))

pub alternatives_are_carried_over : AlternativesAreCarriedOver
alternatives_are_carried_over sig rules within list begins =
    let n = next_id list in
    let here = goals_inside within list in
    let shaped = shaped_inside sig rules n within list begins in
    let below = below_inside sig rules n within list begins in
    let back = goes_back sig n here shaped below in
    let framed = alternatives_are_framed sig rules n within list begins in
    (back.injective, back.is_list, sym framed.0 ∙ alternatives_come_back sig rules n here begins.may_be_expanded.signature shaped below, framed.1)
