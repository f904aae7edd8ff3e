-- When a head may close a goal.
use Rattle.std.specs.Prelude.{◌≡◌, ℕ, List, Some}
use Rattle.lf_definitions.specs.Syntax.{LfHead, metavariable, LfType, shape_of}
use Rattle.lf_definitions.specs.ShapedGoals.{scope_in, ShapedTypeIn}
use Rattle.lf_definitions.specs.Occurrence.{OccursInType, OccursInGoal}
use Rattle.lf_definitions.specs.Typing.{LfGoal}
use Rattle.lf_definitions.specs.Signatures.{LfSignature}
use Rattle.lf_definitions.specs.GoalLists.{all_goals}
use Rattle.lf_terms.specs.Targets.{goal_of}
use Rattle.meta_goals.specs.GoalsOf.{goals_of}
use Rattle.build_shared.specs.declared.rule_use.RuleUse.{RuleUse}

-- A head that is no metavariable has this type, which is shaped in the goal's context and mentions no metavariable that the goal doesn't mention.
pub record IsHeadFor (sig : LfSignature) (goals : List LfGoal) (g : LfGoal) (h : LfHead) (type : LfType) : Type 0 where
  pub has_shape : scope_in sig goals g.context h ≡ Some (shape_of type)
  pub is_no_goal : (m : ℕ) → metavariable m ≡ h → ⊥
  pub type_is_shaped : ShapedTypeIn sig goals g.context type
  pub mentions : (m : ℕ) → OccursInType (metavariable m) type → OccursInGoal (metavariable m) g

abbrev pub MayClose : RuleUse → LfHead → LfType → Type 0
MayClose u h type = IsHeadFor u.sig.now (all_goals (goals_of u.goals.now)) (goal_of u.goal.now) h type
