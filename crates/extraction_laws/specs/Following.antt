-- The chosen script, followed by the numbers of nodes of a tree: each goal of the one list carries the number of the node of its cluster.
use Rattle.std.specs.Prelude.{◌≡◌, ℕ, suc, ◌+◌, ◌<◌, Bool, true, false, not, ◌||◌, List, length, Some, Contains, slice_get, if◌then◌else◌, nat_eq}
use Rattle.lf_definitions.specs.Syntax.{LfType}
use Rattle.lf_definitions.specs.Typing.{LfGoal}
use Rattle.lf_definitions.specs.Signatures.{LfSignature}
use Rattle.lf_definitions.specs.GoalLists.{LfGoals, all_goals, ids, first_goal, opening}
use Rattle.application_laws.specs.Conditions.{inside}
use Rattle.alternatives.specs.Rules.{LfRule}
use Rattle.alternatives.specs.Alternatives.{LfAlternative}
use Rattle.clusters.specs.Clusters.{classes, is_one_of}
use Rattle.derivations.specs.Derivations.{alternatives_of}
use Rattle.derivations.specs.Replays.{LfStep}
use Rattle.answer_definitions.specs.Chosen.{class_place, chosen_from}
use Rattle.tree_runs.specs.Addresses.{address_of}
use Rattle.tree_runs.specs.Marks.{entry_at}
use Rattle.tree_runs.specs.Shapes.{TreeShape, alternatives_at}
use Rattle.tree_runs.specs.States.{TreeEvent}
use Rattle.tree_marks.specs.TreeMarks.{is_alternative_proved}
use Rattle.answer_definitions.specs.Right.{state_after}
use Rattle.answer_definitions.specs.Settled.{is_proved_at}

-- After a step a goal is moved where it is new, or carried the node of the step.
abbrev pub is_moved_from : LfGoals → (ℕ → ℕ) → ℕ → ℕ → Bool
is_moved_from before carried node m = not (is_one_of (all_goals before) m) || nat_eq (carried m) node

-- the classes of the goals that are moved
abbrev pub moved_classes : LfGoals → (ℕ → ℕ) → ℕ → LfGoals → List (List LfGoal)
moved_classes before carried node after = classes (inside (is_moved_from before carried node) (all_goals after))

-- Goals that are moved carry the children of the node, which have the numbers from `first` on, by their classes, and all others keep theirs.
abbrev pub nodes_after : LfGoals → (ℕ → ℕ) → (node first : ℕ) → LfGoals → ℕ → ℕ
nodes_after before carried node first after m =
    if is_moved_from before carried node m then first + class_place (moved_classes before carried node after) m else carried m

-- two ways to carry nodes agree on the goals of a list
abbrev pub Agree : LfGoals → (ℕ → ℕ) → (ℕ → ℕ) → Type 0
Agree list carried other = (m : ℕ) → Contains (ids (all_goals list)) m → carried m ≡ other m

-- The alternative of this number is the least of a node all of whose children are proved.
pub record IsLeast (shape : TreeShape) (node i : ℕ) : Type 0 where
  pub is_proved : is_alternative_proved shape node i ≡ true
  pub least : (other : ℕ) → other < i → is_alternative_proved shape node other ≡ false

module _ (sig : LfSignature) (rules : List LfRule) (a : LfType) (events : List TreeEvent) where
  -- the shape of the tree of the events
  abbrev pub shape_after : TreeShape
  shape_after = (state_after sig rules a events).shape

  -- what is chosen from a list on, whose goals carry nodes of the tree of the events
  abbrev pub script_from : ℕ → LfGoals → (ℕ → ℕ) → List LfStep
  script_from most list carried = chosen_from sig rules a (is_proved_at shape_after) most list (λ m. address_of shape_after (carried m))

  -- With so many steps left, the list and what its goals carry are reached from the opening list at the root: each step takes the entry of the least alternative of the first
  -- goal's node all of whose children are proved, and moves goals to the children of that alternative. What other numbers carry is of no matter.
  pub data IsReached : ℕ → LfGoals → (ℕ → ℕ) → Type 0 where
    opened : IsReached (length (state_after sig rules a events).committed) (opening a) (λ m. 0)
    stepped : (left : ℕ) (list : LfGoals) (carried : ℕ → ℕ) (g : LfGoal) (i first count : ℕ) (alternative : LfAlternative) → IsReached (suc left) list carried → first_goal list ≡ Some g →
        IsLeast shape_after (carried g.id) i → slice_get (alternatives_of sig rules list) i ≡ Some alternative → entry_at (alternatives_at shape_after (carried g.id)) i ≡ Some (first, count) →
        IsReached left alternative.goals (nodes_after list carried (carried g.id) first alternative.goals)
    agreed : (most : ℕ) (list : LfGoals) (carried other : ℕ → ℕ) → IsReached most list carried → Agree list carried other → IsReached most list other
