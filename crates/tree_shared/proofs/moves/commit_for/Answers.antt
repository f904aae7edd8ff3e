use Rattle.std.proofs.Common.{subst, sym}
use Rattle.tree_runs.specs.States.{commit}
use Rattle.tree_steps.specs.Children.{widths}
use Rattle.tree_shared.specs.Names.{IsTreeOf}
use Rattle.tree_shared.proofs.SharedTrees.{goes, stays}
use Rattle.tree_shared.proofs.moves.commit_for.Goals.{in-Ok, in-Err}
use Rattle.tree_shared.proofs.moves.commit_for.Goals as goal

pub returns-clause-tree : goal.returns-clause-tree
returns-clause-tree g c root budget workers below of = elim c.match-commit.branch [
  | in-Ok w ↦
      subst (IsTreeOf g.P.Problem.branches g.P.Problem.seen g.P.Problem.is_own c.args.problem.now root budget workers) (sym w.tree-is)
      (goes g.P.Problem.branches g.P.Problem.seen g.P.Problem.is_own c.args.problem.now c.args.tree.now c.commit.new.self c.commit.ensures.tree c.commit.ensures.root c.commit.ensures.budget
      (commit c.args.taken.now.seat c.args.taken.now.node (widths c.args.branches.alternatives.items)) w.in-Ok.ensures.ok root budget workers below of)
  | in-Err w ↦
      subst (IsTreeOf g.P.Problem.branches g.P.Problem.seen g.P.Problem.is_own c.args.problem.now root budget workers) (sym w.tree-is)
      (w.give_back-in-Err.ensures.tree root budget workers below
      (stays g.P.Problem.branches g.P.Problem.seen g.P.Problem.is_own c.args.problem.now c.args.tree.now c.commit.new.self c.commit.ensures.tree c.commit.ensures.root c.commit.ensures.budget
      w.in-Err.ensures.err root budget workers of))
]
