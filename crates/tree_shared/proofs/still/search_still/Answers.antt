use Rattle.std.proofs.Common.{sym, subst, ◌∙◌}
use Rattle.tree_runs.specs.Runs.{IsStillRun}
use Rattle.tree_shared.specs.Stills.{IsStep}
use Rattle.tree_shared.proofs.Pairs.{goes_on, fewer_left, ends}
use Rattle.tree_shared.proofs.still.search_still.Goals as goal

pub loop-tree-smaller : goal.loop-tree-smaller
loop-tree-smaller g c =
    let pair = subst (IsStep (g.P.Problem.branches c.args.problem.now) (g.P.Problem.seen c.args.problem.now) (g.P.Problem.is_own c.args.problem.now) c.loop-tree.tree c.take_step.new.tree) (sym c.goes.ensures ∙ c.if-goes.true) c.in_ok-take_step.ensures.step in
    fewer_left (g.P.Problem.branches c.args.problem.now) (g.P.Problem.seen c.args.problem.now) (g.P.Problem.is_own c.args.problem.now) c.loop-tree.tree c.take_step.new.tree c.take_step.ensures.tree c.take_step.ensures.root c.take_step.ensures.budget pair c.loop-tree.invariant.is_tree c.args.budget c.loop-tree.invariant.budget_is

pub loop-tree-preserved : goal.loop-tree-preserved
loop-tree-preserved g c =
    let pair = subst (IsStep (g.P.Problem.branches c.args.problem.now) (g.P.Problem.seen c.args.problem.now) (g.P.Problem.is_own c.args.problem.now) c.loop-tree.tree c.take_step.new.tree) (sym c.goes.ensures ∙ c.if-goes.true) c.in_ok-take_step.ensures.step in
    goes_on (g.P.Problem.branches c.args.problem.now) (g.P.Problem.seen c.args.problem.now) (g.P.Problem.is_own c.args.problem.now) c.loop-tree.tree c.take_step.new.tree c.take_step.ensures.tree c.take_step.ensures.root c.take_step.ensures.budget pair c.args.root c.args.budget c.loop-tree.invariant

pub returns-clause-still : goal.returns-clause-still
returns-clause-still g c =
    let done = subst (IsStep (g.P.Problem.branches c.args.problem.now) (g.P.Problem.seen c.args.problem.now) (g.P.Problem.is_own c.args.problem.now) c.loop-tree.tree c.take_step.new.tree) (sym c.goes.ensures ∙ c.if-goes.false) c.in_ok-take_step.ensures.step in
    let still = ends (g.P.Problem.branches c.args.problem.now) (g.P.Problem.seen c.args.problem.now) (g.P.Problem.is_own c.args.problem.now) c.args.root c.args.budget c.loop-tree.tree c.loop-tree.invariant done.0 in
    subst (IsStillRun (g.P.Problem.branches c.args.problem.now) c.args.budget (g.P.Problem.seen c.args.problem.now c.args.root)) (sym done.1) still
