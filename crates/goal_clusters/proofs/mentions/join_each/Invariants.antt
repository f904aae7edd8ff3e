use Rattle.std.proofs.Common.{take}
use Rattle.goal_clusters.specs.Linking.{Relinks, joined_by}
use Rattle.goal_clusters.proofs.mentions.join_each.Given as goal

abbrev pub invariant-loop-number : goal.invariant-loop-number
invariant-loop-number l = Relinks l.fn.links.items l.links.items (joined_by l.numbers.keys l.place (take l.number-index l.mentioned))
