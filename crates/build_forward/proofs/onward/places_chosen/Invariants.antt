use Rattle.std.proofs.Common.{◌≡◌, map, take}
use Rattle.build_shared.specs.Seen.{seen_hypothesis}
use Rattle.build_forward.proofs.onward.places_chosen.Given as goal

abbrev pub invariant-loop-i : goal.invariant-loop-i
invariant-loop-i l = l.found ≡ map (λ h. h.place) (map seen_hypothesis (take l.i l.chosen))
