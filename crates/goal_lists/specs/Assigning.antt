-- What is left of a list of goals once some of them are assigned.
use Rattle.std.specs.Prelude.{◌≡◌, List, [], ◌∷◌, Some, None}
use Rattle.lf_definitions.specs.Syntax.{LfTerm}
use Rattle.lf_definitions.specs.Typing.{LfGoal}
use Rattle.lf_definitions.specs.GoalLists.{LfGoals}
use Rattle.lf_definitions.specs.Instantiation.{Assignment, InstantiatedGoal}

-- Goals that are assigned are dropped, and all others are instantiated.
pub data Leaves (σ : Assignment) : List LfGoal → List LfGoal → Type 0 where
  leaves_none : Leaves σ [] []
  goal_dropped : {g : LfGoal} {rest left : List LfGoal} (u : LfTerm) → σ g.id ≡ Some u → Leaves σ rest left → Leaves σ (g ∷ rest) left
  goal_stays : {g h : LfGoal} {rest left : List LfGoal} → σ g.id ≡ None → InstantiatedGoal σ g h → Leaves σ rest left → Leaves σ (g ∷ rest) (h ∷ left)

-- of the proof goals and of the witness goals
pub record LeavesGoals (σ : Assignment) (goals left : LfGoals) : Type 0 where
  pub of_proofs : Leaves σ goals.proofs left.proofs
  pub of_witnesses : Leaves σ goals.witnesses left.witnesses
