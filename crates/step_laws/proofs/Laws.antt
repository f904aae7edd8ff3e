-- The law, as it is stated.
use Rattle.std.proofs.Common.{◌≡◌, ℕ, ◌<◌, Option, Some, None, All, refl}
use Rattle.std.proofs.lemmas.List.Elements.{All-nil}
use Rattle.lf_definitions.specs.ShapedGoals.{ShapedSignature, ShapedGoals}
use Rattle.lf_definitions.specs.Typing.{LfGoal}
use Rattle.lf_definitions.specs.Signatures.{LfSignature}
use Rattle.lf_definitions.specs.GoalLists.{LfGoals, all_goals, first_goal}
use Rattle.applications.specs.Candidates.{candidates}
use Rattle.applications.specs.Applications.{applications_to, at_first}
use Rattle.application_laws.specs.Conditions.{TakesAtoms, MayBeUsed}
use Rattle.application_laws.proofs.Counted.{is_counted, All-of_candidates}
use Rattle.application_laws.proofs.Laws.{candidates_may_be_used}
use Rattle.alternatives.specs.Rules.{LfRule}
use Rattle.alternatives.specs.Steps.{IsStep}
use Rattle.step_laws.specs.Laws.{ApplicationsAreSteps}
use Rattle.step_laws.proofs.After.{step}
use Rattle.step_laws.proofs.Completed.{first_is_one}

module _ (sig : LfSignature) (of_sig : ShapedSignature sig) (list : LfGoals) (shaped : ShapedGoals sig (all_goals list)) (n : ℕ) (below : All (λ h. h.id < n) (all_goals list))
    (rule : LfRule) (takes : TakesAtoms sig rule.method) where
  to_goal : (g : LfGoal) → first_goal list ≡ Some g → All (IsStep sig n list) (applications_to sig rule.number rule.method n (all_goals list) g)
  unfolding applications_to
  to_goal g is_first =
      All-of_candidates (IsStep sig n list) (MayBeUsed sig (all_goals list) n g) sig n (all_goals list) g
      (λ c may a e. step sig of_sig list shaped n below g is_first c may a (is_counted sig n (all_goals list) g c a e)) (candidates sig rule.number rule.method g n)
      (candidates_may_be_used sig of_sig (all_goals list) shaped n below g (first_is_one (all_goals list) g is_first) rule.number rule.method takes)

  pub each_is_step : (o : Option LfGoal) → first_goal list ≡ o → All (IsStep sig n list) (at_first sig rule.number rule.method n (all_goals list) o)
  each_is_step None none = All-nil (IsStep sig n list)
  each_is_step (Some g) is_first = to_goal g is_first

pub applications_are_steps : ApplicationsAreSteps
applications_are_steps sig of_sig list shaped n below rule takes = each_is_step sig of_sig list shaped n below rule takes (first_goal list) refl
