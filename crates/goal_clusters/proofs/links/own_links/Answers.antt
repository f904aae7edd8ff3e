use Rattle.goal_clusters.proofs.LinkLaws.{one_more_place}
use Rattle.goal_clusters.proofs.links.own_links.Goals as goal

pub loop-place-preserved : goal.loop-place-preserved
loop-place-preserved c = one_more_place c.loop-place.place c.loop-place.links.items c.push.new.self.items c.loop-place.invariant c.in_ok-push.ensures.items
