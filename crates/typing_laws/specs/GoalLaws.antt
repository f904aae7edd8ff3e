-- The laws of lists of goals: goals among others, and what makes an assignment keep them.
use Rattle.std.specs.Prelude.{◌≡◌, ◌↔◌, List, [], length, All, Contains, Some, None}
use Rattle.lf_definitions.specs.Syntax.{LfTerm, lams, LfType, atomic, Context}
use Rattle.lf_definitions.specs.Instantiation.{Assignment, InstantiatedGoal}
use Rattle.lf_definitions.specs.Typing.{Typed, Formed, FormedContext, LfGoal, goal_type}
use Rattle.lf_definitions.specs.Signatures.{LfSignature, kinds_in, typing_in}
use Rattle.lf_definitions.specs.GoalLists.{AreDistinct, FormedGoal}
use Rattle.typing_laws.specs.InstantiationLaws.{KeepsGoal}

-- A goal is well formed where its type is, with no variables.
abbrev pub GoalsAreTheirTypes : Type 0
GoalsAreTheirTypes =
    (sig : LfSignature) (goals : List LfGoal) (g : LfGoal) →
    FormedGoal sig goals g ↔ Formed (kinds_in sig) (typing_in sig goals []) (goal_type g)

-- Each of the goals is one of `more`.
abbrev pub IsAmong : List LfGoal → List LfGoal → Type 0
IsAmong goals more = All (Contains more) goals

-- What is typed or well formed among goals is so among more goals, if their numbers differ.
abbrev pub GoalsGrow : Type 0
GoalsGrow =
    (sig : LfSignature) (goals more : List LfGoal) → IsAmong goals more → AreDistinct more →
    ((ctx : Context) →
    ((t : LfTerm) (a : LfType) → Typed (typing_in sig goals ctx) t a → Typed (typing_in sig more ctx) t a)
    × ((a : LfType) → Formed (kinds_in sig) (typing_in sig goals ctx) a → Formed (kinds_in sig) (typing_in sig more ctx) a)
    × ((rest : Context) → FormedContext (kinds_in sig) (typing_in sig goals ctx) rest → FormedContext (kinds_in sig) (typing_in sig more ctx) rest))
    × ((g : LfGoal) → FormedGoal sig goals g → FormedGoal sig more g)

-- An assignment keeps a goal that it leaves, where the goal's instance is one of the others, and their numbers differ.
abbrev pub GoalsThatStayAreKept : Type 0
GoalsThatStayAreKept =
    (sig : LfSignature) (others : List LfGoal) (σ : Assignment) (g h : LfGoal) → AreDistinct others → Contains others h → InstantiatedGoal σ g h → σ g.id ≡ None → KeepsGoal sig others σ g

-- It keeps a goal for which it puts a body that is typed, in the instance of the goal's context, at the instance of its target.
abbrev pub AssignedGoalsAreKept : Type 0
AssignedGoalsAreKept =
    (sig : LfSignature) (others : List LfGoal) (σ : Assignment) (g h : LfGoal) (body : LfTerm) → InstantiatedGoal σ g h → σ g.id ≡ Some (lams (length h.context) body) →
    Typed (typing_in sig others h.context) body (atomic h.target) → KeepsGoal sig others σ g
