-- The clusters of a list of goals.
use Rattle.std.specs.Prelude.{ℕ, Bool, not, ◌||◌, List, [], ◌∷◌, map, nat_eq, filter, flat_map}
use Rattle.std.specs.List.{list_any}
use Rattle.lf_definitions.specs.Syntax.{metavariable}
use Rattle.lf_definitions.specs.Typing.{LfGoal, goal_type}
use Rattle.lf_definitions.specs.GoalLists.{LfGoals, all_goals, ids}
use Rattle.head_laws.specs.Mentions.{occurs_in_type}
use Rattle.goal_lists.specs.Numbering.{renumbered}
use Rattle.application_laws.specs.Conditions.{goals_inside}

-- A goal's context or its target mentions a metavariable.
abbrev pub goal_mentions : LfGoal → ℕ → Bool
goal_mentions g m = occurs_in_type (metavariable m) (goal_type g)

-- One of two goals mentions the other.
abbrev pub are_linked : LfGoal → LfGoal → Bool
are_linked g h = goal_mentions g h.id || goal_mentions h g.id

-- A goal is linked with one of some.
abbrev pub touches : LfGoal → List LfGoal → Bool
touches g class = list_any (are_linked g) class

-- The classes of goals that are linked directly or through others, in the order of their first goals: a goal that comes before others joins the classes of these that it touches.
abbrev pub classes : List LfGoal → List (List LfGoal)
classes [] = []
classes (g ∷ rest) = (g ∷ flat_map (λ class. class) (filter (touches g) (classes rest))) ∷ filter (λ class. not (touches g class)) (classes rest)

-- A number is that of one of some goals.
abbrev pub is_one_of : List LfGoal → ℕ → Bool
is_one_of class m = list_any (nat_eq m) (ids class)

-- The goals of a class, in the order of the list, each a proof goal or a witness as before, numbered by their places.
abbrev pub cluster_of : LfGoals → List LfGoal → LfGoals
cluster_of list class = renumbered (goals_inside (is_one_of class) list)

-- The clusters of a list of goals (after the metavariable clusters of Aesop), in the order of their first goals.
unfoldable pub clusters : LfGoals → List LfGoals
clusters list = map (cluster_of list) (classes (all_goals list))
