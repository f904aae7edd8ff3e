-- What is left of fresh goals, by their marks.
use Rattle.std.specs.Prelude.{◌≡◌, Bool, not, List, [], ◌∷◌, ◌++◌}
use Rattle.lf_definitions.specs.Typing.{LfGoal}
use Rattle.lf_definitions.specs.Instantiation.{Assignment, InstantiatedGoal}
use Rattle.lf_functions.specs.Instances.{instance_of_goal}
use Rattle.applications.specs.Applications.{goals_left, fresh_left}
use Rattle.meta_goals.specs.Bindings.{LfBinding, assigning}
use Rattle.meta_goals.specs.Instantiates.{Instantiates, GoalIsShaped}
use Rattle.build_shared.specs.declared.remaining.FreshGoals.{FreshGoals}

-- all, the proof goals, and the witnesses
pub record AreFresh (goals : List LfGoal) (σ : Assignment) (fresh : List LfGoal) (marks : List Bool) (left : FreshGoals) : Type 0 where
  pub all_are : left.all ≡ goals_left goals σ fresh
  pub proofs_are : left.proofs ≡ fresh_left (λ mark. mark) goals σ fresh marks
  pub witnesses_are : left.witnesses ≡ fresh_left not goals σ fresh marks

-- one goal more
pub record AddsFresh (goals : List LfGoal) (σ : Assignment) (g : LfGoal) (mark : Bool) (old new : FreshGoals) : Type 0 where
  pub adds_to_all : new.all ≡ old.all ++ goals_left goals σ (g ∷ [])
  pub adds_to_proofs : new.proofs ≡ old.proofs ++ fresh_left (λ mark. mark) goals σ (g ∷ []) (mark ∷ [])
  pub adds_to_witnesses : new.witnesses ≡ old.witnesses ++ fresh_left not goals σ (g ∷ []) (mark ∷ [])

-- A goal may be instantiated by bindings, and its one instance is that among some goals.
pub record CanLeave (goals : List LfGoal) (bindings : List LfBinding) (g : LfGoal) : Type 0 where
  pub instantiates : Instantiates bindings (GoalIsShaped g)
  pub only : (h : LfGoal) → InstantiatedGoal (assigning bindings) g h → h ≡ instance_of_goal goals (assigning bindings) g
