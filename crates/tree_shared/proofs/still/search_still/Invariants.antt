use Rattle.std.proofs.Common.{◌-◌}
use Rattle.tree_shared.proofs.Pairs.{IsOnStill}
use Rattle.tree_shared.proofs.still.search_still.Given as goal

abbrev pub invariant-loop-tree : goal.invariant-loop-tree
invariant-loop-tree g l = IsOnStill (g.P.Problem.branches l.problem) (g.P.Problem.seen l.problem) (g.P.Problem.is_own l.problem) l.fn.root l.budget l.tree

abbrev pub decreases-loop-tree : goal.decreases-loop-tree
decreases-loop-tree g l = l.budget - l.tree.commits
