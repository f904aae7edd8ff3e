use Rattle.std.proofs.Common.{take}
use Rattle.meta_openings.specs.Tables.{AreMarks}
use Rattle.meta_openings.proofs.places.marks_of.Given as goal

abbrev pub invariant-loop-i : goal.invariant-loop-i
invariant-loop-i l = AreMarks (take l.i l.places) l.count l.marks.items
