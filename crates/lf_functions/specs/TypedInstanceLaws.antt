-- Instances of typed terms.
use Rattle.std.specs.Prelude.{◌≡◌, List, [], IsTrue}
use Rattle.lf_definitions.specs.Syntax.{LfTerm, LfType, Context, shapes_of_types}
use Rattle.lf_definitions.specs.ShapedGoals.{scope_in, ShapedTypeIn, ShapedContextIn}
use Rattle.lf_definitions.specs.Replacements.{Goes}
use Rattle.lf_definitions.specs.Typing.{LfGoal}
use Rattle.lf_definitions.specs.Signatures.{LfSignature}
use Rattle.lf_definitions.specs.Instantiation.{Assignment, instantiating}
use Rattle.typing_laws.specs.InstantiationLaws.{TakesGoals}
use Rattle.lf_functions.specs.Instances.{goals_depth, instance_of, instance_of_type, instance_of_context}
use Rattle.lf_functions.specs.Checking.{has_type}

-- An assignment that takes goals to others goes from the ones to the others, in contexts of the same shapes.
abbrev pub TakenGoalsGoToOthers : Type 0
TakenGoalsGoToOthers =
    (sig : LfSignature) (goals others : List LfGoal) (σ : Assignment) → TakesGoals sig goals others σ → (ctx placed : Context) → shapes_of_types placed ≡ shapes_of_types ctx →
    Goes (goals_depth goals) (scope_in sig goals ctx) (scope_in sig others placed) (instantiating σ)

-- Then the instance of a term that has a type has the instance of the type, in the instance of the context.
abbrev pub InstancesHaveTheirTypes : Type 0
InstancesHaveTheirTypes =
    (sig : LfSignature) (goals others : List LfGoal) (σ : Assignment) → TakesGoals sig goals others σ → (ctx : Context) → ShapedContextIn sig goals [] ctx →
    (t : LfTerm) (a : LfType) → ShapedTypeIn sig goals ctx a → IsTrue (has_type sig goals ctx t a) →
    IsTrue (has_type sig others (instance_of_context goals σ ctx) (instance_of goals σ t) (instance_of_type goals σ a))
