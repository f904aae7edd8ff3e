use Rattle.std.proofs.Common.{◌≡◌, ◌++◌, map}
use Rattle.applications.specs.Candidates.{paired}
use Rattle.build_shared.specs.Seen.{seen_hypothesis}
use Rattle.build_forward.proofs.PremisePlaces.{pairs_left}
use Rattle.build_forward.proofs.onward.fixed_by.Given as goal

abbrev pub invariant-loop-i : goal.invariant-loop-i
invariant-loop-i l = l.fixed ++ pairs_left l.items l.chosen l.i ≡ paired l.items (map seen_hypothesis l.chosen)
