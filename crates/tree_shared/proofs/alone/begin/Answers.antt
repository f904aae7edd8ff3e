use Rattle.std.proofs.Common.{sym, subst, ◌∙◌}
use Rattle.tree_shared.specs.Stills.{IsStep}
use Rattle.tree_shared.proofs.SharedTrees.{stays}
use Rattle.tree_shared.proofs.AloneWalks.{goes_one_more}
use Rattle.tree_shared.proofs.alone.begin.Goals as goal

pub loop-turn-preserved : goal.loop-turn-preserved
loop-turn-preserved g c =
    let pair = subst (IsStep (g.P.Problem.branches c.args.problem.now) (g.P.Problem.seen c.args.problem.now) (g.P.Problem.is_own c.args.problem.now) c.loop-turn.tree c.take_step.new.tree) (sym c.goes.ensures ∙ c.if-not-goes.false) c.in_ok-step.ensures.step in
    goes_one_more g.P.Problem.branches g.P.Problem.seen g.P.Problem.is_own c.args.problem.now c.args.tree.now c.loop-turn.tree c.take_step.new.tree c.loop-turn.invariant c.take_step.ensures.tree c.take_step.ensures.root c.take_step.ensures.budget pair

pub returns-then-not-goes-clause-tree : goal.returns-then-not-goes-clause-tree
returns-then-not-goes-clause-tree g c root budget workers some of =
    let none = subst (IsStep (g.P.Problem.branches c.args.problem.now) (g.P.Problem.seen c.args.problem.now) (g.P.Problem.is_own c.args.problem.now) c.loop-turn.tree c.take_step.new.tree) (sym c.goes.ensures ∙ c.if-not-goes.true) c.in_ok-step.ensures.step in
    stays g.P.Problem.branches g.P.Problem.seen g.P.Problem.is_own c.args.problem.now c.loop-turn.tree c.take_step.new.tree c.take_step.ensures.tree c.take_step.ensures.root c.take_step.ensures.budget
    none.1 root budget workers (c.loop-turn.invariant.kept root budget workers some of)

pub returns-then-forks-clause-tree : goal.returns-then-forks-clause-tree
returns-then-forks-clause-tree g c root budget workers some of =
    let pair = subst (IsStep (g.P.Problem.branches c.args.problem.now) (g.P.Problem.seen c.args.problem.now) (g.P.Problem.is_own c.args.problem.now) c.loop-turn.tree c.take_step.new.tree) (sym c.goes.ensures ∙ c.if-not-goes.false) c.in_ok-step.ensures.step in
    let came = goes_one_more g.P.Problem.branches g.P.Problem.seen g.P.Problem.is_own c.args.problem.now c.args.tree.now c.loop-turn.tree c.take_step.new.tree c.loop-turn.invariant c.take_step.ensures.tree c.take_step.ensures.root c.take_step.ensures.budget pair in
    came.kept root budget workers some of
