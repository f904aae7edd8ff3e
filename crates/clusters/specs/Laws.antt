-- The laws of classes and clusters.
use Rattle.std.specs.Prelude.{◌≡◌, ◌≢◌, ◌↔◌, ℕ, ◌<◌, List, [], map, length, slice_get, Some, All, AllPairs, Contains}
use Rattle.lf_definitions.specs.Typing.{LfGoal}
use Rattle.lf_definitions.specs.Signatures.{LfSignature}
use Rattle.lf_definitions.specs.ShapedGoals.{ShapedGoals}
use Rattle.lf_definitions.specs.GoalLists.{LfGoals, all_goals, ids, AreDistinct, AreClosed}
use Rattle.lf_definitions.specs.Instantiation.{rename_goal, IsInjective}
use Rattle.applications.specs.Laws.{rename_goals}
use Rattle.clusters.specs.Clusters.{classes, is_one_of, clusters}
use Rattle.clusters.specs.Links.{AreConnected, Splits}

-- The goals of the classes are the goals of the list.
abbrev pub ClassesCover : Type 0
ClassesCover = (goals : List LfGoal) (g : LfGoal) → Contains goals g ↔ (class : List LfGoal) × Contains (classes goals) class × Contains class g

-- Where the numbers of goals differ, so they do within each class, and no two classes have a goal of one number.
abbrev pub ClassesAreApart : Type 0
ClassesAreApart =
    (goals : List LfGoal) → AreDistinct goals →
    All AreDistinct (classes goals) × AllPairs (λ class other. (m : ℕ) → Contains (ids class) m → Contains (ids other) m → ⊥) (classes goals)

-- Two goals of a class are linked, directly or through others, and what is linked with a goal of a class is one of its goals.
abbrev pub ClassesAreConnected : Type 0
ClassesAreConnected =
    (goals : List LfGoal) → AreDistinct goals → (class : List LfGoal) → Contains (classes goals) class → (g : LfGoal) → Contains class g → (h : LfGoal) → Contains goals h →
    Contains class h ↔ AreConnected goals g h

-- No mention crosses the border of a class, where the numbers differ and no other metavariable is mentioned.
abbrev pub ClassesSplit : Type 0
ClassesSplit = (goals : List LfGoal) → AreDistinct goals → AreClosed goals → All (λ class. Splits (is_one_of class) goals) (classes goals)

-- Classes and goals under other numbers are classes under other numbers.
abbrev pub ClassesAreRenamed : Type 0
ClassesAreRenamed = (ρ : ℕ → ℕ) → IsInjective ρ → (goals : List LfGoal) → classes (map (rename_goal ρ) goals) ≡ map (map (rename_goal ρ)) (classes goals)

-- Clusters forget numbers.
abbrev pub ClustersForgetNumbers : Type 0
ClustersForgetNumbers = (ρ : ℕ → ℕ) → IsInjective ρ → (list : LfGoals) → clusters (rename_goals ρ list) ≡ clusters list

-- The clusters of a shaped list are shaped, none is empty, and their goals have their places as numbers.
abbrev pub ClustersAreShaped : Type 0
ClustersAreShaped =
    (sig : LfSignature) (list : LfGoals) → ShapedGoals sig (all_goals list) →
    All (λ cluster. ShapedGoals sig (all_goals cluster) × (all_goals cluster ≢ []) × ((i : ℕ) → i < length (all_goals cluster) → slice_get (ids (all_goals cluster)) i ≡ Some i)) (clusters list)

-- There is no cluster exactly where there is no goal.
abbrev pub ClustersAreNoneWhereNoGoalIs : Type 0
ClustersAreNoneWhereNoGoalIs = (list : LfGoals) → (clusters list ≡ []) ↔ (all_goals list ≡ [])
