-- What the builders ask of a list of goals, and what they answer.
use Rattle.std.specs.Prelude.{◌≡◌, ℕ, ◌<◌, Option, Some, All}
use Rattle.lf_definitions.specs.Syntax.{SimpleType, LfType, Context}
use Rattle.lf_definitions.specs.Shaping.{Scope, ShapedType}
use Rattle.lf_definitions.specs.ShapedGoals.{ShapedContext, ShapedGoals}
use Rattle.lf_definitions.specs.Typing.{LfGoal}
use Rattle.lf_definitions.specs.Signatures.{LfSignature}
use Rattle.lf_definitions.specs.GoalLists.{LfGoals, all_goals, first_goal}
use Rattle.applications.specs.Methods.{LfCandidate}
use Rattle.applications.specs.Applications.{LfApplication, application_of}
use Rattle.application_laws.specs.Conditions.{MayBeUsed}

-- A list of shaped goals has a first goal, and the numbers from `n` on are fresh.
pub record HasFirst (sig : LfSignature) (goals : LfGoals) (n : ℕ) (g : LfGoal) : Type 0 where
  pub shaped : ShapedGoals sig (all_goals goals)
  pub below : All (λ h. h.id < n) (all_goals goals)
  pub is_first : first_goal goals ≡ Some g

-- A candidate may be used for the first goal of a list.
abbrev pub MayBeUsedFirst : LfSignature → LfGoals → ℕ → LfCandidate → Type 0
MayBeUsedFirst sig goals n c = (g : LfGoal) × HasFirst sig goals n g × MayBeUsed sig (all_goals goals) n g c

-- An answer is what comes of a candidate for the first goal, if it counts.
abbrev pub ComesOf : LfSignature → LfGoals → ℕ → LfCandidate → Option LfApplication → Type 0
ComesOf sig goals n c answer = (g : LfGoal) → first_goal goals ≡ Some g → answer ≡ application_of sig n (all_goals goals) g c

-- A type is shaped in some scope.
abbrev pub HasShapes : LfType → Type 0
HasShapes a = (kinds : ℕ → Option SimpleType) × (Γ : Scope) × ShapedType kinds Γ a

-- So is a context.
abbrev pub ContextHasShapes : Context → Type 0
ContextHasShapes ctx = (kinds : ℕ → Option SimpleType) × (Γ : Scope) × ShapedContext kinds Γ ctx
