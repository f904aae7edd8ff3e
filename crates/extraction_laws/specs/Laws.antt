-- The law of extraction: from the opening list on, each step of the chosen script can be read from the tree.
use Rattle.std.specs.Prelude.{◌≡◌, ℕ, suc, ◌+◌, ◌<◌, true, List, [], ◌∷◌, length, Some, None, slice_get}
use Rattle.lf_definitions.specs.Syntax.{LfType}
use Rattle.lf_definitions.specs.ShapedGoals.{ShapedGoals}
use Rattle.lf_definitions.specs.Typing.{LfGoal}
use Rattle.lf_definitions.specs.Signatures.{LfSignature}
use Rattle.lf_definitions.specs.GoalLists.{LfGoals, all_goals, first_goal, opening}
use Rattle.alternatives.specs.Rules.{LfRule}
use Rattle.alternatives.specs.Alternatives.{LfAlternative}
use Rattle.derivations.specs.Derivations.{alternatives_of}
use Rattle.derivations.specs.Unfolding.{branches_of}
use Rattle.answer_definitions.specs.Chosen.{step_of}
use Rattle.tree_runs.specs.Marks.{entry_at, is_proved}
use Rattle.tree_runs.specs.Runs.{is_run}
use Rattle.tree_runs.specs.Shapes.{nodes_count, alternatives_at}
use Rattle.tree_runs.specs.States.{TreeEvent}
use Rattle.answer_definitions.specs.Theorems.{IsFormedTheorem}
use Rattle.answer_definitions.specs.Right.{state_after}
use Rattle.answer_definitions.specs.Settled.{script_by}
use Rattle.extraction_laws.specs.Following.{moved_classes, nodes_after, Agree, IsLeast, shape_after, script_from, IsReached}

module _ (sig : LfSignature) (rules : List LfRule) (a : LfType) (events : List TreeEvent) where
  -- A step from a list on, with so many steps left, by the alternative of this number at the first goal's node: the list has such an entry, the alternative has a child that stands for
  -- each class of goals that are moved, a step is left, what is known of the list is known of the list after it, and the script begins with it.
  pub record IsNextStep (known : ℕ → LfGoals → (ℕ → ℕ) → Type 0) (most : ℕ) (list : LfGoals) (carried : ℕ → ℕ) (node i : ℕ) : Type 0 where
    pub alternative : LfAlternative
    pub there : slice_get (alternatives_of sig rules list) i ≡ Some alternative
    pub first : ℕ
    pub children : entry_at (alternatives_at (shape_after sig rules a events) node) i ≡ Some (first, length (moved_classes list carried node alternative.goals))
    pub children_stand : (place : ℕ) → place < length (moved_classes list carried node alternative.goals) → first + place < nodes_count (shape_after sig rules a events)
    pub left : ℕ
    pub one_less : most ≡ suc left
    pub goes_on : known left alternative.goals (nodes_after list carried node first alternative.goals)
    pub script : script_from sig rules a events most list carried ≡ step_of alternative ∷ script_from sig rules a events left alternative.goals (nodes_after list carried node first alternative.goals)

  -- What is known on the way holds of the opening list at the root, which has the whole script. It says of a list that it is shaped, that the first goal's node stands and is proved, and
  -- which step is next; where no goal is left there is none. Any numbers of nodes will do that agree on the goals of the list.
  pub record CanBeFollowed (known : ℕ → LfGoals → (ℕ → ℕ) → Type 0) : Type 0 where
    pub begins : known (length (state_after sig rules a events).committed) (opening a) (λ m. 0)
    pub whole : script_from sig rules a events (length (state_after sig rules a events).committed) (opening a) (λ m. 0) ≡ script_by sig rules a events
    pub shaped : (most : ℕ) (list : LfGoals) (carried : ℕ → ℕ) → known most list carried → ShapedGoals sig (all_goals list)
    pub stands : (most : ℕ) (list : LfGoals) (carried : ℕ → ℕ) → known most list carried → (g : LfGoal) → first_goal list ≡ Some g →
        (carried g.id < nodes_count (shape_after sig rules a events)) × (is_proved (shape_after sig rules a events) (carried g.id) ≡ true)
    pub steps : (most : ℕ) (list : LfGoals) (carried : ℕ → ℕ) → known most list carried → (g : LfGoal) → first_goal list ≡ Some g → (i : ℕ) →
        IsLeast (shape_after sig rules a events) (carried g.id) i → IsNextStep known most list carried (carried g.id) i
    pub ends : (most : ℕ) (list : LfGoals) (carried : ℕ → ℕ) → first_goal list ≡ None → script_from sig rules a events most list carried ≡ []
    pub agrees : (most : ℕ) (list : LfGoals) (carried other : ℕ → ℕ) → known most list carried → Agree list carried other →
        known most list other × (script_from sig rules a events most list other ≡ script_from sig rules a events most list carried)

-- Where the root of a theorem is proved in a run, the chosen script can be followed from the opening list on, by the numbers of nodes: so much is known of each list that is reached.
abbrev pub ChosenScriptsCanBeFollowed : Type 0
ChosenScriptsCanBeFollowed =
    (sig : LfSignature) (rules : List LfRule) (a : LfType) → IsFormedTheorem sig rules a → (budget : ℕ) (events : List TreeEvent) →
    is_run (branches_of sig rules) budget (opening a) events ≡ true → is_proved (state_after sig rules a events).shape 0 ≡ true →
    CanBeFollowed sig rules a events (IsReached sig rules a events)
