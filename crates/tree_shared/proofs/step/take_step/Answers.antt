use Rattle.std.proofs.Common.{subst}
use Rattle.tree_steps.specs.Seen.{branches_seen}
use Rattle.tree_steps.specs.Trees.{IsAnswer}
use Rattle.tree_shared.proofs.Pairs.{holds_now, branches_now}
use Rattle.tree_shared.proofs.step.take_step.Goals as goal

pub commit-requires-clause-holds : goal.commit-requires-clause-holds
commit-requires-clause-holds g c =
    let answer = subst (IsAnswer (g.P.Problem.branches c.args.problem.now) (g.P.Problem.seen c.args.problem.now) (g.P.Problem.is_own c.args.problem.now) c.args.tree.now c.claim.new.self 0) c.in-Take.is c.in_ok-node.ensures.answer in
    holds_now (g.P.Problem.branches c.args.problem.now) (g.P.Problem.seen c.args.problem.now) (g.P.Problem.is_own c.args.problem.now) c.args.tree.now c.claim.new.self c.in-Take.node c.claim.ensures.root answer.0

pub commit-requires-clause-branches : goal.commit-requires-clause-branches
commit-requires-clause-branches g c =
    let answer = subst (IsAnswer (g.P.Problem.branches c.args.problem.now) (g.P.Problem.seen c.args.problem.now) (g.P.Problem.is_own c.args.problem.now) c.args.tree.now c.claim.new.self 0) c.in-Take.is c.in_ok-node.ensures.answer in
    branches_now (g.P.Problem.branches c.args.problem.now) (g.P.Problem.seen c.args.problem.now) (g.P.Problem.is_own c.args.problem.now) c.args.tree.now c.claim.new.self c.in-Take.node c.claim.ensures.root answer.0
    (branches_seen (g.P.Problem.seen c.args.problem.now) c.in_ok-branches-in-Take.branches) (g.P.Problem.seen c.args.problem.now c.in-Take.content) c.in_ok-branches-in-Take.ensures.branches answer.2
