use Rattle.std.proofs.Common.{◌≡◌, ◌++◌, map}
use Rattle.build_shared.specs.Seen.{seen_atom, seen_hypothesis}
use Rattle.build_forward.specs.Onwards.{equations_between}
use Rattle.build_forward.proofs.PremisePlaces.{equations_left}
use Rattle.build_forward.proofs.equations.equations_between.Given as goal

abbrev pub invariant-loop-i : goal.invariant-loop-i
invariant-loop-i l = l.equations ++ equations_left l.premises l.chosen l.i ≡ equations_between (map seen_atom l.premises) (map seen_hypothesis l.chosen)
