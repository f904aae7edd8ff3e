use Rattle.std.proofs.Common.{[], sym, subst}
use Rattle.goal_lists.specs.Assigning.{Leaves, leaves_none}
use Rattle.meta_goals.specs.Bindings.{assigning}
use Rattle.meta_goals.specs.Instantiates.{Instantiates, GoalsAreShaped}
use Rattle.meta_goals.proofs.LeftGoals.{left_more, left_all, instantiates_goal}
use Rattle.meta_goals.proofs.apply_assign.left_of.Goals as goal

pub loop-i-preserved : goal.loop-i-preserved
loop-i-preserved c =
    let more = c.in_ok-leave.ensures in
    left_more (assigning c.args.sigma.now) c.as_slice-items.result.now c.loop-i.i c.index-items-i.result c.loop-i.left c.leave.new.left more.0 c.loop-i-test.true c.index-items-i.is c.loop-i.invariant more.1 more.2

pub leave-requires : goal.leave-requires
leave-requires c =
    instantiates_goal c.args.sigma.now c.as_slice-items.result.now c.loop-i.i c.index-items-i.result c.loop-i-test.true c.index-items-i.is
    (subst (λ l. Instantiates c.args.sigma.now (GoalsAreShaped l)) (sym c.as_slice-items.ensures) c.requires)

pub returns : goal.returns
returns c = left_all (assigning c.args.sigma.now) c.as_slice-items.result.now c.loop-i.i c.args.goals.now c.loop-i.left c.loop-i-test.false c.as_slice-items.ensures c.loop-i.invariant

pub loop-i-init : goal.loop-i-init
loop-i-init c = subst (Leaves (assigning c.args.sigma.now) []) (sym c.new-left.ensures) leaves_none
