use Rattle.std.proofs.Common.{◌≡◌, true, subst, ◌∙◌}
use Rattle.tree_runs.specs.Runs.{is_settled}
use Rattle.tree_steps.specs.Trees.{state_of_tree}
use Rattle.tree_shared.specs.Names.{IsTreeOf}
use Rattle.tree_shared.proofs.AloneWalks.{of_itself, at_start, if_ok}
use Rattle.tree_shared.proofs.workers.search.Goals as goal

pub go_on-tree-requires-clause-tree : goal.go_on-tree-requires-clause-tree
go_on-tree-requires-clause-tree g c κs within =
    of_itself g.P.Problem.branches g.P.Problem.seen g.P.Problem.is_own c.args.problem.now c.args.root c.args.budget c.args.crew.now.workers c.begin.new.tree
    (c.in_ok-turns.ensures.tree c.args.root c.args.budget c.args.crew.now.workers c.requires.workers
    (at_start g.P.Problem.branches g.P.Problem.seen g.P.Problem.is_own c.args.problem.now c.args.root c.args.budget c.args.crew.now.workers c.in_ok-tree.tree c.in_ok-tree.ensures.tree
    c.in_ok-tree.ensures.journal c.in_ok-tree.ensures.root c.in_ok-tree.ensures.budget))

pub returns-clause-root : goal.returns-clause-root
returns-clause-root g c =
    let begun =
    c.in_ok-turns.ensures.tree c.args.root c.args.budget c.args.crew.now.workers c.requires.workers
    (at_start g.P.Problem.branches g.P.Problem.seen g.P.Problem.is_own c.args.problem.now c.args.root c.args.budget c.args.crew.now.workers c.in_ok-tree.tree c.in_ok-tree.ensures.tree
    c.in_ok-tree.ensures.journal c.in_ok-tree.ensures.root c.in_ok-tree.ensures.budget) in
    if_ok (IsTreeOf g.P.Problem.branches g.P.Problem.seen g.P.Problem.is_own c.args.problem.now c.go_on-tree.result.root c.go_on-tree.result.budget c.args.crew.now.workers)
    (λ tree. tree.root ≡ c.args.root) c.end.result (λ tree of. of.root_is ∙ (c.go_on-tree.ensures.root_is ∙ begun.root_is)) c.end.ensures.tree

pub returns-clause-budget : goal.returns-clause-budget
returns-clause-budget g c =
    let begun =
    c.in_ok-turns.ensures.tree c.args.root c.args.budget c.args.crew.now.workers c.requires.workers
    (at_start g.P.Problem.branches g.P.Problem.seen g.P.Problem.is_own c.args.problem.now c.args.root c.args.budget c.args.crew.now.workers c.in_ok-tree.tree c.in_ok-tree.ensures.tree
    c.in_ok-tree.ensures.journal c.in_ok-tree.ensures.root c.in_ok-tree.ensures.budget) in
    if_ok (IsTreeOf g.P.Problem.branches g.P.Problem.seen g.P.Problem.is_own c.args.problem.now c.go_on-tree.result.root c.go_on-tree.result.budget c.args.crew.now.workers)
    (λ tree. tree.budget ≡ c.args.budget) c.end.result (λ tree of. of.budget_is ∙ (c.go_on-tree.ensures.budget_is ∙ begun.budget_is)) c.end.ensures.tree

pub returns-clause-settled : goal.returns-clause-settled
returns-clause-settled g c =
    let begun =
    c.in_ok-turns.ensures.tree c.args.root c.args.budget c.args.crew.now.workers c.requires.workers
    (at_start g.P.Problem.branches g.P.Problem.seen g.P.Problem.is_own c.args.problem.now c.args.root c.args.budget c.args.crew.now.workers c.in_ok-tree.tree c.in_ok-tree.ensures.tree
    c.in_ok-tree.ensures.journal c.in_ok-tree.ensures.root c.in_ok-tree.ensures.budget) in
    if_ok
    (λ tree. is_settled (g.P.Problem.branches c.args.problem.now) c.go_on-tree.result.budget (state_of_tree (g.P.Problem.branches c.args.problem.now) (g.P.Problem.seen c.args.problem.now) (g.P.Problem.is_own c.args.problem.now) tree) ≡ true)
    (λ tree. is_settled (g.P.Problem.branches c.args.problem.now) c.args.budget (state_of_tree (g.P.Problem.branches c.args.problem.now) (g.P.Problem.seen c.args.problem.now) (g.P.Problem.is_own c.args.problem.now) tree) ≡ true)
    c.end.result
    (λ tree settled. subst (λ b. is_settled (g.P.Problem.branches c.args.problem.now) b (state_of_tree (g.P.Problem.branches c.args.problem.now) (g.P.Problem.seen c.args.problem.now) (g.P.Problem.is_own c.args.problem.now) tree) ≡ true)
    (c.go_on-tree.ensures.budget_is ∙ begun.budget_is) settled)
    c.end.ensures.settled
