use Rattle.std.proofs.Common.{◌≡◌, take, drop, length, map}
use Rattle.lf_terms.specs.Targets.{goal_of}
use Rattle.goal_clusters.specs.Dealing.{dealt}
use Rattle.goal_clusters.proofs.deal.deal.Given as goal

abbrev pub invariant-loop-i : goal.invariant-loop-i
invariant-loop-i l = l.parts.items ≡ dealt (length l.roots) (take l.i (drop l.first l.roots)) (map goal_of (take l.i l.items))
