use Rattle.std.proofs.Common.{subst}
use Rattle.tree_steps.specs.Trees.{IsAnswer}
use Rattle.tree_shared.proofs.SharedTrees.{stays}
use Rattle.tree_shared.proofs.AloneWalks.{decided_settles, spent_settles}
use Rattle.tree_shared.proofs.alone.end.Goals as goal

pub returns-in-Decided-clause-tree : goal.returns-in-Decided-clause-tree
returns-in-Decided-clause-tree g c =
    let answer = subst (IsAnswer (g.P.Problem.branches c.args.problem.now) (g.P.Problem.seen c.args.problem.now) (g.P.Problem.is_own c.args.problem.now) c.give_all_back.new.tree c.claim.new.self 0) c.in-Decided.is c.in_ok-claim.ensures.answer in
    stays g.P.Problem.branches g.P.Problem.seen g.P.Problem.is_own c.args.problem.now c.give_all_back.new.tree c.claim.new.self c.claim.ensures.tree c.claim.ensures.root c.claim.ensures.budget
    answer.1 c.args.tree.root c.args.tree.budget c.args.workers (c.give_all_back.ensures.tree c.args.tree.root c.args.tree.budget c.requires.tree)

pub returns-in-Decided-clause-settled : goal.returns-in-Decided-clause-settled
returns-in-Decided-clause-settled g c =
    let answer = subst (IsAnswer (g.P.Problem.branches c.args.problem.now) (g.P.Problem.seen c.args.problem.now) (g.P.Problem.is_own c.args.problem.now) c.give_all_back.new.tree c.claim.new.self 0) c.in-Decided.is c.in_ok-claim.ensures.answer in
    decided_settles g.P.Problem.branches g.P.Problem.seen g.P.Problem.is_own c.args.problem.now c.give_all_back.new.tree c.claim.new.self c.claim.ensures.root
    c.args.tree.root c.args.tree.budget c.args.workers (c.give_all_back.ensures.tree c.args.tree.root c.args.tree.budget c.requires.tree) c.give_all_back.ensures.idle answer

pub returns-in-Spent-clause-tree : goal.returns-in-Spent-clause-tree
returns-in-Spent-clause-tree g c =
    let answer = subst (IsAnswer (g.P.Problem.branches c.args.problem.now) (g.P.Problem.seen c.args.problem.now) (g.P.Problem.is_own c.args.problem.now) c.give_all_back.new.tree c.claim.new.self 0) c.in-Spent.is c.in_ok-claim.ensures.answer in
    stays g.P.Problem.branches g.P.Problem.seen g.P.Problem.is_own c.args.problem.now c.give_all_back.new.tree c.claim.new.self c.claim.ensures.tree c.claim.ensures.root c.claim.ensures.budget
    answer.3 c.args.tree.root c.args.tree.budget c.args.workers (c.give_all_back.ensures.tree c.args.tree.root c.args.tree.budget c.requires.tree)

pub returns-in-Spent-clause-settled : goal.returns-in-Spent-clause-settled
returns-in-Spent-clause-settled g c =
    let answer = subst (IsAnswer (g.P.Problem.branches c.args.problem.now) (g.P.Problem.seen c.args.problem.now) (g.P.Problem.is_own c.args.problem.now) c.give_all_back.new.tree c.claim.new.self 0) c.in-Spent.is c.in_ok-claim.ensures.answer in
    spent_settles g.P.Problem.branches g.P.Problem.seen g.P.Problem.is_own c.args.problem.now c.give_all_back.new.tree c.claim.new.self c.claim.ensures.root
    c.args.tree.root c.args.tree.budget c.args.workers (c.give_all_back.ensures.tree c.args.tree.root c.args.tree.budget c.requires.tree) c.give_all_back.ensures.idle c.in-Spent.field-0 answer
