use Rattle.std.proofs.Common.{take, map}
use Rattle.lf_terms.specs.Targets.{goal_of}
use Rattle.goal_clusters.specs.Linking.{Relinks, joined_all}
use Rattle.goal_clusters.proofs.mentions.join_all.Given as goal

abbrev pub invariant-loop-i : goal.invariant-loop-i
invariant-loop-i l = Relinks l.fn.links.items l.links.items (joined_all l.numbers.keys l.first (map goal_of (take l.i l.items)))
