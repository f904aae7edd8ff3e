use Rattle.std.proofs.Common.{◌≡◌, take}
use Rattle.binder_marks.specs.Marks.{marks_at}
use Rattle.binder_marks.proofs.marking.read_marks.Given as goal

abbrev pub invariant-loop-place : goal.invariant-loop-place
invariant-loop-place l = l.read.items ≡ marks_at (take l.place-index l.places) l.marks
