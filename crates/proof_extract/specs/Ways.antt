-- Where the code stands on the way of a chosen script through a tree.
use Rattle.std.specs.Prelude.{◌≡◌, ℕ, suc, List, ◌∷◌, Option}
use Rattle.lf_definitions.specs.Syntax.{LfType}
use Rattle.lf_definitions.specs.Signatures.{LfSignature}
use Rattle.lf_definitions.specs.GoalLists.{LfGoals}
use Rattle.alternatives.specs.Rules.{LfRule}
use Rattle.derivations.specs.Replays.{LfStep}
use Rattle.tree_marks.specs.TreeMarks.{Settled}
use Rattle.tree_steps.specs.declared.tree.Tree.{Tree}
use Rattle.extraction_laws.specs.Following.{shape_after, script_from, IsReached}
use Rattle.extraction_laws.specs.Laws.{CanBeFollowed}
use Rattle.proof_extract.specs.Tables.{IsTable}

module _ (sig : LfSignature) (rules : List LfRule) (a : LfType) {P S N : Type 0} (tree : Tree P N S) where
  -- The tree has the shape of its events, and right marks, and the chosen script of the type can be followed in it.
  pub record IsFollowed : Type 0 where
    pub shape : tree.shape.shape ≡ shape_after sig rules a tree.journal.events
    pub marks : Settled tree.shape.shape tree.marks.marks
    pub follows : CanBeFollowed sig rules a tree.journal.events (IsReached sig rules a tree.journal.events)

  -- With so many steps left, the list is reached, and its goals carry these nodes, which the table has.
  pub record IsOnTheWay (most : ℕ) (list : LfGoals) (nodes : ℕ → ℕ) (entries : ℕ → Option ℕ) : Type 0 where
    pub followed : IsFollowed
    pub reached : IsReached sig rules a tree.journal.events most list nodes
    pub table : IsTable list nodes entries

  -- The script from a list on begins with a step, and goes on from another list.
  pub record IsStepOn (most : ℕ) (list : LfGoals) (nodes : ℕ → ℕ) (step : LfStep) (after : LfGoals) (entries : ℕ → Option ℕ) : Type 0 where
    pub left : ℕ
    pub one_less : most ≡ suc left
    pub nodes_then : ℕ → ℕ
    pub on_the_way : IsOnTheWay left after nodes_then entries
    pub script : script_from sig rules a tree.journal.events most list nodes ≡ step ∷ script_from sig rules a tree.journal.events left after nodes_then
