-- Still runs over a book are still runs over the unfolding of a theorem.
use Rattle.std.proofs.Common.{◌≡◌, ℕ, List, [], sym, subst}
use Rattle.std.specs.Prelude.{◌≢◌}
use Rattle.lf_definitions.specs.Syntax.{LfType}
use Rattle.lf_definitions.specs.GoalLists.{all_goals, opening}
use Rattle.lf_definitions.specs.ShapedGoals.{ShapedGoals}
use Rattle.derivations.specs.Unfolding.{branches_of}
use Rattle.meta_goals.specs.declared.goals.Goals.{Goals}
use Rattle.meta_goals.specs.GoalsOf.{goals_of}
use Rattle.tree_runs.specs.Runs.{IsStillRun}
use Rattle.tree_runs.specs.States.{TreeEvent}
use Rattle.tree_derivations.proofs.Laws.{opening_is_node}
use Rattle.goal_book.specs.GoalBooks.{LfBook, rules_in}
use Rattle.answer_definitions.specs.Theorems.{IsFormedTheorem}
use Rattle.right_answers.proofs.Settled.{formed_is_shaped}
use Rattle.rule_problem.specs.Problems.{branches_in, IsNode}

module _ (b : LfBook) (a : LfType) (root : Goals) (opens : goals_of root ≡ opening a) where
  -- The opening list of a theorem is a node of the book.
  pub opening_is_own : IsFormedTheorem b.sig (rules_in b) a → IsNode b root
  opening_is_own formed =
      let node = opening_is_node b.sig (rules_in b) a (formed_is_shaped b.sig (rules_in b) a formed) in
      record { shaped = subst (λ list. ShapedGoals b.sig (all_goals list)) (sym opens) node.0.goals; some = subst (λ list. all_goals list ≢ []) (sym opens) node.1 }

  -- A still run over the book's branches is one over the unfolding.
  pub still_over_rules : branches_in b ≡ branches_of b.sig (rules_in b) → (budget : ℕ) (events : List TreeEvent) → IsStillRun (branches_in b) budget (goals_of root) events → IsStillRun (branches_of b.sig (rules_in b)) budget (opening a) events
  still_over_rules branches budget events still =
      subst (λ list. IsStillRun (branches_of b.sig (rules_in b)) budget list events) opens (subst (λ expand. IsStillRun expand budget (goals_of root) events) branches still)
