use Rattle.std.proofs.Common.{◌≡◌, take}
use Rattle.applications.specs.Candidates.{without}
use Rattle.build_shared.proofs.dropping.without.Given as goal

abbrev pub invariant-loop-i : goal.invariant-loop-i
invariant-loop-i l = l.rest ≡ without l.dropped (take l.i l.items)
