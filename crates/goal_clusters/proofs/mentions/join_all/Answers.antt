use Rattle.goal_clusters.proofs.Joining.{one_more_goal}
use Rattle.goal_clusters.proofs.mentions.join_all.Goals as goal

pub loop-i-preserved : goal.loop-i-preserved
loop-i-preserved c =
    one_more_goal c.args.numbers.now.keys c.args.first c.as_slice-items.result.now c.loop-i.i c.index-items-i.result c.args.links.now.items c.loop-i.links.items c.join_goal.new.links.items
    c.loop-i-test.true c.index-items-i.is c.loop-i.invariant c.in_ok-join_goal.ensures
