use Rattle.std.proofs.Common.{◌≡◌, take, map}
use Rattle.std.specs.Prelude.{nat_eq}
use Rattle.application_laws.specs.Conditions.{inside}
use Rattle.indexmap.specs.IndexMap.{get}
use Rattle.lf_terms.specs.Targets.{goal_of}
use Rattle.proof_extract.specs.Tables.{moves}
use Rattle.proof_extract.proofs.moved.moved_of.Given as goal

abbrev pub invariant-loop-i : goal.invariant-loop-i
invariant-loop-i l = l.moved ≡ inside (λ m. moves l.node (get nat_eq l.carried m)) (map goal_of (take l.i l.items))
