use Rattle.std.proofs.Common.{◌≡◌}
use Rattle.applications.specs.Candidates.{counting_from}
use Rattle.goal_clusters.proofs.links.own_links.Given as goal

abbrev pub invariant-loop-place : goal.invariant-loop-place
invariant-loop-place l = l.links.items ≡ counting_from 0 l.place
