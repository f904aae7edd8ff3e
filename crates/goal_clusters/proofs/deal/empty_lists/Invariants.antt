use Rattle.std.proofs.Common.{◌≡◌, []}
use Rattle.goal_clusters.specs.Dealing.{dealt}
use Rattle.goal_clusters.proofs.deal.empty_lists.Given as goal

abbrev pub invariant-loop : goal.invariant-loop
invariant-loop l = l.lists.items ≡ dealt l.counter [] []
