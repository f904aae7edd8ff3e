-- An application that a candidate makes of the first goal of a well-formed list, and the step that it is.
use Rattle.std.proofs.Common.{◌≡◌, ℕ, ◌<◌, Some, All}
use Rattle.std.specs.Prelude.{Contains}
use Rattle.lf_definitions.specs.ShapedGoals.{ShapedSignature, ShapedGoals}
use Rattle.lf_definitions.specs.Typing.{LfGoal}
use Rattle.lf_definitions.specs.Signatures.{LfSignature, FormedSignature}
use Rattle.lf_definitions.specs.GoalLists.{LfGoals, all_goals, first_goal, FormedGoals}
use Rattle.lf_definitions.proofs.ShapedGoals.{ShapedSignature-FormedSignature}
use Rattle.typing_laws.proofs.ClosedTypes.{ShapedGoals-FormedGoals}
use Rattle.applications.specs.Methods.{LfCandidate}
use Rattle.applications.specs.Applications.{LfApplication}
use Rattle.application_laws.specs.Conditions.{MayBeUsed}
use Rattle.application_laws.proofs.Counted.{IsCounted}
use Rattle.alternatives.specs.Steps.{IsStep}
use Rattle.step_laws.proofs.Completed.{first_is_one}
use Rattle.step_laws.proofs.After.{step}
use Rattle.typed_steps.proofs.Offers.{OpensHead}

pub record IsMade (sig : LfSignature) (list : LfGoals) (n : ℕ) (g : LfGoal) (c : LfCandidate) (a : LfApplication) : Type 0 where
  pub signature : FormedSignature sig
  pub goals : FormedGoals sig (all_goals list)
  pub below : All (λ h. h.id < n) (all_goals list)
  pub is_first : first_goal list ≡ Some g
  pub may_be_used : MayBeUsed sig (all_goals list) n g c
  pub opens : OpensHead sig (all_goals list) n g c
  pub counted : IsCounted sig n (all_goals list) g c a

module _ (sig : LfSignature) (list : LfGoals) (n : ℕ) (g : LfGoal) (c : LfCandidate) (a : LfApplication) (m : IsMade sig list n g c a) where
  pub shaped_signature : ShapedSignature sig
  shaped_signature = ShapedSignature-FormedSignature sig m.signature

  pub shaped_goals : ShapedGoals sig (all_goals list)
  shaped_goals = ShapedGoals-FormedGoals sig (all_goals list) m.goals

  pub one_of : Contains (all_goals list) g
  one_of = first_is_one (all_goals list) g m.is_first

  pub is_step : IsStep sig n list a
  is_step = step sig shaped_signature list shaped_goals n m.below g m.is_first c m.may_be_used a m.counted
