use Rattle.std.proofs.Common.{refl}
use Rattle.lf_terms.proofs.GoalLists.{goal_shape_read}
use Rattle.lf_terms.proofs.goal.shapes_of_metas.Goals as goal

pub loop-goal-preserved : goal.loop-goal-preserved
loop-goal-preserved c =
    goal_shape_read c.as_slice-items.result.now c.loop-goal.shapes.items c.push.new.self.items c.loop-goal.goal-index c.goal-item.result
    (record { id = c.goal-item.result.id; args = c.in_ok-args.args }) c.loop-goal-test.true c.goal-item.is c.in_ok-push.ensures.items c.loop-goal.invariant refl c.in_ok-args.ensures
