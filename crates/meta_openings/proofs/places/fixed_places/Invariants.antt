use Rattle.std.proofs.Common.{take}
use Rattle.meta_openings.specs.Tables.{AreFixed}
use Rattle.meta_openings.proofs.places.fixed_places.Given as goal

abbrev pub invariant-loop-i : goal.invariant-loop-i
invariant-loop-i l = AreFixed (take l.i l.pairs) l.count l.places.items
