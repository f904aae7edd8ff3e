use Rattle.tree_shared.proofs.AloneWalks.{gives_one_more}
use Rattle.tree_shared.proofs.alone.give_all_back.Goals as goal

pub loop-seat-preserved : goal.loop-seat-preserved
loop-seat-preserved g c =
    gives_one_more g.P.Problem.branches g.P.Problem.seen g.P.Problem.is_own c.args.problem.now c.args.workers c.loop-seat.seat c.args.tree.now c.loop-seat.tree c.give_back.new.tree c.loop-seat-test.true
    c.loop-seat.invariant c.give_back.ensures.is_tree c.give_back.ensures.tree c.give_back.ensures.idle c.give_back.ensures.others
