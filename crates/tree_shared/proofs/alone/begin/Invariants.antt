use Rattle.tree_shared.proofs.AloneWalks.{ComesBySeat0}
use Rattle.tree_shared.proofs.alone.begin.Given as goal

abbrev pub invariant-loop-turn : goal.invariant-loop-turn
invariant-loop-turn g l = ComesBySeat0 g.P.Problem.branches g.P.Problem.seen g.P.Problem.is_own l.problem l.initial.tree l.tree
