use Rattle.std.proofs.Common.{◌≡◌, ℕ, ◌<◌, length, get_or}
use Rattle.goal_clusters.specs.Linking.{LeadsBack, LeadsTo}
use Rattle.goal_clusters.proofs.links.find.Given as goal

abbrev pub invariant-loop-above : goal.invariant-loop-above
invariant-loop-above l =
    record {
      leads_back : LeadsBack l.links.items;
      as_long : length l.links.items ≡ length l.fn.links.items;
      within : l.at < length l.links.items;
      above_is : l.above ≡ get_or l.links.items l.at 0;
      leads_to : (root : ℕ → ℕ) → LeadsTo l.fn.links.items root → LeadsTo l.links.items root;
      same_root : (root : ℕ → ℕ) → LeadsTo l.fn.links.items root → root l.at ≡ root l.fn.place;
    }

abbrev pub decreases-loop-above : goal.decreases-loop-above
decreases-loop-above l = l.at
