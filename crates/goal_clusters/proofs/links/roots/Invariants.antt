use Rattle.std.proofs.Common.{◌≡◌, ℕ, map, length}
use Rattle.applications.specs.Candidates.{counting_from}
use Rattle.goal_clusters.specs.Linking.{LeadsTo}
use Rattle.goal_clusters.proofs.links.roots.Given as goal

abbrev pub invariant-loop-place : goal.invariant-loop-place
invariant-loop-place l =
    record {
      as_long : length l.found.items ≡ l.place;
      are_roots : (root : ℕ → ℕ) → LeadsTo l.links root → l.found.items ≡ map root (counting_from 0 l.place);
    }
