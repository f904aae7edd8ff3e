use Rattle.tree_shared.proofs.SharedTrees.{claimed}
use Rattle.tree_shared.proofs.moves.claim_for.Goals as goal

pub returns-clause-tree : goal.returns-clause-tree
returns-clause-tree g c root budget workers below of =
    claimed g.P.Problem.branches g.P.Problem.seen g.P.Problem.is_own c.args.problem.now c.give_back.new.tree c.claim.new.self c.claim.ensures.tree c.claim.ensures.root c.claim.ensures.budget
    c.args.seat c.claim.result c.claim.ensures.answer c.claim.ensures.err root budget workers below (c.give_back.ensures.tree root budget workers below of)
