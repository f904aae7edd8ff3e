use Rattle.std.proofs.Common.{◌≡◌, drop}
use Rattle.std.specs.Prelude.{is_some}
use Rattle.opening_laws.specs.Openings.{fixed_to}
use Rattle.build_shared.proofs.unfixed.is_fixed.Given as goal

abbrev pub invariant-loop-k : goal.invariant-loop-k
invariant-loop-k l = is_some (fixed_to l.fixed l.i) ≡ is_some (fixed_to (drop l.k l.pairs) l.i)
