use Rattle.std.proofs.Common.{◌≡◌, ℕ, take, Some}
use Rattle.std.specs.Prelude.{nat_eq, if◌then◌else◌}
use Rattle.indexmap.specs.IndexMap.{get}
use Rattle.proof_extract.specs.Tables.{has_first}
use Rattle.proof_extract.proofs.carried.give_class.Given as goal

abbrev pub invariant-loop-goal : goal.invariant-loop-goal
invariant-loop-goal l = (m : ℕ) → get nat_eq l.made m ≡ (if has_first (take l.goal-index l.renaming) m then Some l.node else get nat_eq l.fn.made m)
