use Rattle.std.proofs.Common.{◌≡◌, map}
use Rattle.goal_lists.specs.Numbering.{renumbered, numbered_pairs}
use Rattle.applications.specs.Candidates.{counting_from}
use Rattle.meta_goals.specs.GoalsOf.{goals_of}
use Rattle.goal_clusters.specs.Dealing.{own_roots, part_at, numbers_of}
use Rattle.goal_clusters.proofs.split.numbered_parts.Given as goal

abbrev pub invariant-loop-place : goal.invariant-loop-place
invariant-loop-place l =
    record {
      goals : map (λ c. goals_of c.goals) l.found.items ≡ map (λ r. renumbered (part_at l.proofs l.witnesses r)) (own_roots l.roots (counting_from 0 l.place));
      renaming : map (λ c. c.renaming) l.found.items ≡ map (λ r. numbered_pairs 0 (numbers_of (part_at l.proofs l.witnesses r))) (own_roots l.roots (counting_from 0 l.place));
    }
