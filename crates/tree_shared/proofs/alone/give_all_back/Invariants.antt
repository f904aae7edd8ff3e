use Rattle.tree_shared.proofs.AloneWalks.{ComesByGiving}
use Rattle.tree_shared.proofs.alone.give_all_back.Given as goal

abbrev pub invariant-loop-seat : goal.invariant-loop-seat
invariant-loop-seat g l = ComesByGiving g.P.Problem.branches g.P.Problem.seen g.P.Problem.is_own l.problem l.workers l.seat l.initial.tree l.tree
