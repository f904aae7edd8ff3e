-- The laws of what assignments leave of lists of goals, of lists that are numbered by their places, and of shaped goals under other numbers.
use Rattle.std.specs.Prelude.{◌≡◌, ◌↔◌, ℕ, List, [], ◌++◌, map, All, Contains, None}
use Rattle.lf_definitions.specs.Typing.{LfGoal}
use Rattle.lf_definitions.specs.Signatures.{LfSignature}
use Rattle.lf_definitions.specs.ShapedGoals.{scope_in, ShapedGoal, ShapedGoals}
use Rattle.lf_definitions.specs.Replacements.{Goes}
use Rattle.lf_definitions.specs.GoalLists.{LfGoals, all_goals, ids, AreDistinct, AreClosed}
use Rattle.lf_definitions.specs.Instantiation.{Assignment, instantiating, rename_goal, IsInjective}
use Rattle.head_laws.specs.MetavariableLaws.{AssignsRenamed}
use Rattle.head_laws.specs.Renumbering.{canon, up_to}
use Rattle.goal_lists.specs.Assigning.{Leaves, LeavesGoals}
use Rattle.goal_lists.specs.Numbering.{renumbered}

-- An assignment goes from goals to others where it puts, for each goal that it assigns, a term of the goal's shape among the others, and each other goal is one of them by its shape.
abbrev pub GoesToGoals : LfSignature → List LfGoal → List LfGoal → Assignment → Type 0
GoesToGoals sig goals others σ = (p : ℕ) × Goes p (scope_in sig goals []) (scope_in sig others []) (instantiating σ)

-- From shaped goals exactly one list is left.
abbrev pub GoalsLeaveOneList : Type 0
GoalsLeaveOneList =
    (sig : LfSignature) (goals : LfGoals) (others : List LfGoal) (σ : Assignment) → ShapedGoals sig (all_goals goals) → GoesToGoals sig (all_goals goals) others σ →
    (left : LfGoals) × LeavesGoals σ goals left × ((other : LfGoals) → LeavesGoals σ goals other → other ≡ left)

-- Its goals are those of before that are not assigned, in their order.
abbrev pub UnassignedGoalsAreLeft : Type 0
UnassignedGoalsAreLeft =
    (goals left : List LfGoal) (σ : Assignment) → Leaves σ goals left →
    (n : ℕ) → Contains (ids left) n ↔ Contains (ids goals) n × (σ n ≡ None)

-- The list that is left, with no goal besides, is shaped.
abbrev pub GoalsThatAreLeftAreShaped : Type 0
GoalsThatAreLeftAreShaped =
    (sig : LfSignature) (goals left : LfGoals) (σ : Assignment) → ShapedGoals sig (all_goals goals) → GoesToGoals sig (all_goals goals) (all_goals left) σ →
    LeavesGoals σ goals left → ShapedGoals sig (all_goals left)

-- With new goals, whose numbers are new and which are shaped among all that there are then, it is shaped, too.
abbrev pub NewGoalsMayStandBeside : Type 0
NewGoalsMayStandBeside =
    (sig : LfSignature) (goals left : LfGoals) (more : List LfGoal) (σ : Assignment) → ShapedGoals sig (all_goals goals) →
    GoesToGoals sig (all_goals goals) (all_goals left ++ more) σ → LeavesGoals σ goals left →
    AreDistinct more → All (λ g. Contains (ids (all_goals left)) g.id → ⊥) more → All (ShapedGoal sig (all_goals left ++ more)) more →
    ShapedGoals sig (all_goals left ++ more)

-- What is left of renamed goals is what is left of the goals, renamed.
abbrev pub WhatIsLeftIsRenamed : Type 0
WhatIsLeftIsRenamed =
    (ρ : ℕ → ℕ) → IsInjective ρ → (σ τ : Assignment) → AssignsRenamed ρ σ τ → (goals left : List LfGoal) →
    Leaves σ goals left ↔ Leaves τ (map (rename_goal ρ) goals) (map (rename_goal ρ) left)

-- A list that is numbered by its places is the old one with other numbers, on the whole and in its two parts, and stays shaped; the old numbers give the list back.
abbrev pub RenumberingIsRenaming : Type 0
RenumberingIsRenaming =
    (goals : LfGoals) →
    (all_goals (renumbered goals) ≡ canon (all_goals goals))
    × ((n : ℕ) → AreClosed (all_goals goals) →
    (map (rename_goal (up_to (ids (all_goals goals)) n)) (renumbered goals).proofs ≡ goals.proofs)
    × (map (rename_goal (up_to (ids (all_goals goals)) n)) (renumbered goals).witnesses ≡ goals.witnesses))
    × ((sig : LfSignature) → ShapedGoals sig (all_goals goals) → ShapedGoals sig (all_goals (renumbered goals)))

-- Shaped goals mention no metavariable but these goals.
abbrev pub ShapedGoalsMentionNoOthers : Type 0
ShapedGoalsMentionNoOthers = (sig : LfSignature) (goals : List LfGoal) → ShapedGoals sig goals → AreClosed goals

-- Goals are shaped where they are so under other numbers.
abbrev pub RenamedGoalsAreShaped : Type 0
RenamedGoalsAreShaped = (sig : LfSignature) (ρ : ℕ → ℕ) → IsInjective ρ → (goals : List LfGoal) → ShapedGoals sig goals ↔ ShapedGoals sig (map (rename_goal ρ) goals)
