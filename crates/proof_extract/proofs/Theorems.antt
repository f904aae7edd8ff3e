-- What the laws say of a tree over a book whose root is the opening list of a theorem, and is proved.
use Rattle.std.proofs.Common.{◌≡◌, true, List, [], sym, ap, ap₂, ◌∙◌, subst}
use Rattle.lf_definitions.specs.Syntax.{LfTerm, LfType}
use Rattle.lf_definitions.specs.Shaping.{ShapedType}
use Rattle.lf_definitions.specs.Typing.{Formed}
use Rattle.lf_definitions.specs.Signatures.{LfSignature, FormedSignature, kinds_in, typing_in}
use Rattle.lf_definitions.specs.ShapedGoals.{kind_shapes_in, ShapedTypeIn}
use Rattle.lf_definitions.specs.GoalLists.{LfGoals, opening}
use Rattle.lf_definitions.proofs.Typing.{ShapedType-Formed}
use Rattle.lf_definitions.proofs.ShapedGoals.{shapes_of-typing_in}
use Rattle.derivations.specs.Replays.{LfStep, closed, replay}
use Rattle.derivations.specs.Unfolding.{branches_of}
use Rattle.tree_runs.specs.Marks.{is_proved}
use Rattle.tree_runs.specs.Runs.{is_run}
use Rattle.tree_runs.specs.States.{TreeState, state_of}
use Rattle.tree_marks.specs.TreeMarks.{Settled}
use Rattle.tree_steps.specs.declared.tree.Tree.{Tree}
use Rattle.tree_steps.specs.Trees.{IsTree, state_of_tree}
use Rattle.meta_goals.specs.declared.goals.Goals.{Goals}
use Rattle.meta_goals.specs.GoalsOf.{goals_of}
use Rattle.goal_book.specs.GoalBooks.{LfBook, rules_in, IsGoalBook}
use Rattle.right_answers.specs.Laws.{ChosenScriptsOfRunsReplay}
use Rattle.answer_definitions.specs.Theorems.{IsFormedTheorem}
use Rattle.answer_definitions.specs.Right.{state_after}
use Rattle.answer_definitions.specs.Settled.{script_by}
use Rattle.extraction_laws.specs.Following.{shape_after}
use Rattle.extraction_laws.specs.Laws.{ChosenScriptsCanBeFollowed}
use Rattle.rule_problem.specs.Problems.{branches_in, IsNode}
use Rattle.rule_problem.specs.Laws.{BranchesAreOfAlternatives, TypesOverBooksAreTheorems}
use Rattle.proof_extract.specs.Ways.{IsFollowed}

-- A well-formed type is shaped.
pub type_is_shaped : (sig : LfSignature) (a : LfType) → Formed (kinds_in sig) (typing_in sig [] []) a → ShapedTypeIn sig [] [] a
type_is_shaped sig a formed = subst (λ Γ. ShapedType (kind_shapes_in sig) Γ a) (shapes_of-typing_in sig [] []) (ShapedType-Formed formed)

module _ (of_alternatives : BranchesAreOfAlternatives) (are_theorems : TypesOverBooksAreTheorems) (b : LfBook) (is_book : IsGoalBook b) (signature : FormedSignature b.sig) (a : LfType)
    (formed : Formed (kinds_in b.sig) (typing_in b.sig [] []) a) {P : Type 0} (tree : Tree P Goals LfGoals) (is_tree : IsTree (branches_in b) goals_of (IsNode b) tree) (root : goals_of tree.root ≡ opening a)
    (proved : is_proved tree.shape.shape 0 ≡ true) where
  theorem : IsFormedTheorem b.sig (rules_in b) a
  theorem = are_theorems b is_book signature a formed

  same_state : state_of_tree (branches_in b) goals_of (IsNode b) tree ≡ state_after b.sig (rules_in b) a tree.journal.events
  same_state = ap₂ (λ branches node. state_of branches node tree.journal.events) (of_alternatives b is_book) root

  same_shape : tree.shape.shape ≡ shape_after b.sig (rules_in b) a tree.journal.events
  same_shape = is_tree.shows.shape ∙ ap (λ (state : TreeState LfGoals). state.shape) same_state

  is_run_of_rules : is_run (branches_of b.sig (rules_in b)) tree.budget (opening a) tree.journal.events ≡ true
  is_run_of_rules = sym (ap₂ (λ branches node. is_run branches tree.budget node tree.journal.events) (of_alternatives b is_book) root) ∙ is_tree.run

  root_is_proved : is_proved (shape_after b.sig (rules_in b) a tree.journal.events) 0 ≡ true
  root_is_proved = ap (λ shape. is_proved shape 0) (sym same_shape) ∙ proved

  pub is_followed : ChosenScriptsCanBeFollowed → IsFollowed b.sig (rules_in b) a tree
  is_followed law = record {
    shape = same_shape;
    marks = subst (λ shape. Settled shape tree.marks.marks) (sym is_tree.shows.shape) is_tree.shows.marks;
    follows = law b.sig (rules_in b) a theorem tree.budget tree.journal.events is_run_of_rules root_is_proved;
  }

  pub script_closes : ChosenScriptsOfRunsReplay → (script : List LfStep) → script ≡ script_by b.sig (rules_in b) a tree.journal.events → (t : LfTerm) × (replay b.sig (rules_in b) a script ≡ closed t)
  script_closes law script is =
      let r = law b.sig (rules_in b) a theorem tree.budget tree.journal.events is_run_of_rules root_is_proved in
      (r.0, ap (replay b.sig (rules_in b) a) is ∙ r.1)
