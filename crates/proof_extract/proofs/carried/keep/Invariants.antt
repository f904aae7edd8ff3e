use Rattle.std.proofs.Common.{◌≡◌, ℕ, take, map}
use Rattle.std.specs.Prelude.{nat_eq, if◌then◌else◌}
use Rattle.clusters.specs.Clusters.{is_one_of}
use Rattle.indexmap.specs.IndexMap.{get}
use Rattle.lf_terms.specs.Targets.{goal_of}
use Rattle.proof_extract.specs.Tables.{kept}
use Rattle.proof_extract.proofs.carried.keep.Given as goal

abbrev pub invariant-loop-i : goal.invariant-loop-i
invariant-loop-i l = (m : ℕ) → get nat_eq l.made m ≡ (if is_one_of (map goal_of (take l.i l.items)) m then kept l.node (get nat_eq l.carried m) (get nat_eq l.fn.made m) else get nat_eq l.fn.made m)
