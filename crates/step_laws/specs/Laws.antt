-- The law of single steps.
use Rattle.std.specs.Prelude.{ℕ, ◌<◌, All}
use Rattle.lf_definitions.specs.ShapedGoals.{ShapedSignature, ShapedGoals}
use Rattle.lf_definitions.specs.Signatures.{LfSignature}
use Rattle.lf_definitions.specs.GoalLists.{LfGoals, all_goals}
use Rattle.application_laws.specs.Conditions.{TakesAtoms}
use Rattle.alternatives.specs.Rules.{LfRule, found_by}
use Rattle.alternatives.specs.Steps.{IsStep}

-- Each application of a rule to the first of some shaped goals is a step.
abbrev pub ApplicationsAreSteps : Type 0
ApplicationsAreSteps =
    (sig : LfSignature) → ShapedSignature sig → (list : LfGoals) → ShapedGoals sig (all_goals list) → (n : ℕ) → All (λ h. h.id < n) (all_goals list) →
    (rule : LfRule) → TakesAtoms sig rule.method → All (IsStep sig n list) (found_by sig n list rule)
