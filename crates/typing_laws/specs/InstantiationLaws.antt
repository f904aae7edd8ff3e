-- The laws of typing under assignments of metavariables.
use Rattle.std.specs.Prelude.{◌≡◌, List, [], All, Some, None}
use Rattle.lf_definitions.specs.Syntax.{LfTerm, Spine, LfType, Context}
use Rattle.lf_definitions.specs.Substitution.{stays}
use Rattle.lf_definitions.specs.Instantiation.{Assignment, Instantiated, InstantiatedSpine, InstantiatedType, InstantiatedContext, InstantiatedGoal}
use Rattle.lf_definitions.specs.Typing.{Typed, TypedSpine, Formed, FormedContext, LfGoal, goal_type, type_of_metavariable}
use Rattle.lf_definitions.specs.Signatures.{LfSignature, kinds_in, typing_in}
use Rattle.lf_definitions.specs.GoalLists.{FormedGoal}
use Rattle.lf_definitions.specs.ShapedGoals.{ShapedTypeIn, ShapedContextIn, ShapedSignature, ShapedGoals}

-- An assignment keeps a goal where the goal's type has an instance, and among the other goals what is put for the goal has that type; a goal for which nothing is put
-- is one of them, with that type.
abbrev pub KeepsGoal : LfSignature → List LfGoal → Assignment → LfGoal → Type 0
KeepsGoal sig others σ g =
    (c : LfType) × InstantiatedType σ (goal_type g) c
    × ((u : LfTerm) → σ g.id ≡ Some u → Typed (typing_in sig others []) u c)
    × (σ g.id ≡ None → type_of_metavariable others g.id ≡ Some c)

-- What is asked of an assignment that takes some goals to others. No order among the goals is asked for: what is put may mention any of the others.
pub record TakesGoals (sig : LfSignature) (goals others : List LfGoal) (σ : Assignment) : Type 0 where
  pub of_signature : ShapedSignature sig
  pub of_goals : ShapedGoals sig goals
  pub of_others : ShapedGoals sig others
  pub keeps : All (KeepsGoal sig others σ) goals

-- Then instantiation keeps the types of terms and of arguments, in every context.
abbrev pub InstantiationsKeepTypes : Type 0
InstantiationsKeepTypes =
    (sig : LfSignature) (goals others : List LfGoal) (σ : Assignment) → TakesGoals sig goals others σ →
    (ctx placed : Context) → ShapedContextIn sig goals [] ctx → InstantiatedContext σ ctx placed →
    ((t r : LfTerm) (a c : LfType) → ShapedTypeIn sig goals ctx a → Typed (typing_in sig goals ctx) t a → InstantiatedType σ a c → Instantiated σ t r → Typed (typing_in sig others placed) r c)
    × ((ts vs : Spine) (bs cs : Context) → ShapedContextIn sig goals ctx bs → TypedSpine (typing_in sig goals ctx) stays ts bs → InstantiatedContext σ bs cs → InstantiatedSpine σ ts vs →
    TypedSpine (typing_in sig others placed) stays vs cs)

-- Contexts, types and typed terms have results there.
abbrev pub InstantiationsHaveResults : Type 0
InstantiationsHaveResults =
    (sig : LfSignature) (goals others : List LfGoal) (σ : Assignment) → TakesGoals sig goals others σ →
    (ctx : Context) → ShapedContextIn sig goals [] ctx →
    ((placed : Context) × InstantiatedContext σ ctx placed)
    × ((a : LfType) → ShapedTypeIn sig goals ctx a → (c : LfType) × InstantiatedType σ a c)
    × ((t : LfTerm) (a : LfType) → Typed (typing_in sig goals ctx) t a → (r : LfTerm) × Instantiated σ t r)

-- It keeps what is well formed: types, contexts and goals.
abbrev pub InstantiationsKeepWhatIsFormed : Type 0
InstantiationsKeepWhatIsFormed =
    (sig : LfSignature) (goals others : List LfGoal) (σ : Assignment) → TakesGoals sig goals others σ →
    ((ctx placed : Context) → ShapedContextIn sig goals [] ctx → InstantiatedContext σ ctx placed →
    ((a c : LfType) → Formed (kinds_in sig) (typing_in sig goals ctx) a → InstantiatedType σ a c → Formed (kinds_in sig) (typing_in sig others placed) c)
    × ((rest more : Context) → FormedContext (kinds_in sig) (typing_in sig goals ctx) rest → InstantiatedContext σ rest more → FormedContext (kinds_in sig) (typing_in sig others placed) more))
    × ((g h : LfGoal) → FormedGoal sig goals g → InstantiatedGoal σ g h → FormedGoal sig others h)
