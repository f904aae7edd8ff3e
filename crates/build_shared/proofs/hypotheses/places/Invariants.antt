use Rattle.std.proofs.Common.{◌≡◌, ◌-◌, ◌++◌}
use Rattle.applications.specs.Candidates.{counting_from}
use Rattle.build_shared.proofs.hypotheses.places.Given as goal

abbrev pub invariant-loop-i : goal.invariant-loop-i
invariant-loop-i l = l.found ++ counting_from l.i (l.count - l.i) ≡ counting_from 0 l.count
