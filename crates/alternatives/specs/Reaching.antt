-- What is asked for normal forms and alternatives, and what is known of a normal form.
use Rattle.std.specs.Prelude.{◌≡◌, ℕ, ◌<◌, ◌≤◌, List, false, Some, All}
use Rattle.lf_definitions.specs.ShapedGoals.{ShapedSignature, ShapedGoals}
use Rattle.lf_definitions.specs.Typing.{LfGoal}
use Rattle.lf_definitions.specs.Signatures.{LfSignature}
use Rattle.lf_definitions.specs.GoalLists.{LfGoals, all_goals, first_goal, next_id}
use Rattle.application_laws.specs.Conditions.{TakesAtoms}
use Rattle.alternatives.specs.Rules.{LfRule}
use Rattle.alternatives.specs.NormalForms.{LfNormal}
use Rattle.alternatives.specs.Taking.{Takes}
use Rattle.alternatives.specs.Steps.{AreOldOrNew}

-- What rules and goals are asked for: the signature and the goals are shaped, their numbers are below `n`, and no rule takes a hypothesis for an argument that has binders.
pub record MayBeExpanded (sig : LfSignature) (rules : List LfRule) (n : ℕ) (list : LfGoals) : Type 0 where
  pub signature : ShapedSignature sig
  pub goals : ShapedGoals sig (all_goals list)
  pub below : All (λ h. h.id < n) (all_goals list)
  pub rules_take_atoms : All (λ rule. TakesAtoms sig rule.method) rules

-- A normal form is reached by its build, with numbers below its first fresh one, which is the next one where the goal is not closed.
pub record IsReached (sig : LfSignature) (n : ℕ) (list : LfGoals) (normal : LfNormal) : Type 0 where
  pub takes : Takes sig list normal.goals normal.build
  pub below : All (λ h. h.id < normal.fresh) (all_goals normal.goals)
  pub rises : n ≤ normal.fresh
  pub old_or_new : AreOldOrNew list n normal.goals
  pub next : normal.closed ≡ false → n ≡ next_id list → normal.fresh ≡ next_id normal.goals
  pub has_first : normal.closed ≡ false → (g : LfGoal) → first_goal list ≡ Some g → (h : LfGoal) × (first_goal normal.goals ≡ Some h)
