use Rattle.std.proofs.Common.{[], ◌∷◌, ◌++◌, ap, ◌∙◌}
use Rattle.goal_clusters.proofs.Deals.{empty_more}
use Rattle.goal_clusters.proofs.deal.empty_lists.Goals as goal

pub loop-preserved : goal.loop-preserved
loop-preserved c = empty_more c.loop.counter c.loop.lists.items c.push.new.self.items c.loop.invariant (c.in_ok-push.ensures.items ∙ ap (λ l. c.loop.lists.items ++ l ∷ []) c.new.ensures)
