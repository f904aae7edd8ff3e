use Rattle.tree_shared.proofs.SharedTrees.{seat_is_idle, others_stay_idle}
use Rattle.tree_shared.proofs.moves.give_back.Goals as goal

pub returns-in-Some-clause-idle : goal.returns-in-Some-clause-idle
returns-in-Some-clause-idle g c =
    seat_is_idle g.P.Problem.branches g.P.Problem.seen g.P.Problem.is_own c.args.problem.now c.args.tree.now c.release.new.self c.release.ensures.tree c.release.ensures.root c.release.ensures.budget
    c.args.seat c.in-Some.node c.release.ensures.journal

pub returns-in-Some-clause-others : goal.returns-in-Some-clause-others
returns-in-Some-clause-others g c =
    others_stay_idle g.P.Problem.branches g.P.Problem.seen g.P.Problem.is_own c.args.problem.now c.args.tree.now c.release.new.self c.release.ensures.tree c.release.ensures.root c.release.ensures.budget
    c.args.seat c.in-Some.node c.release.ensures.journal
