use Rattle.std.proofs.Common.{◌≡◌, ◌++◌, drop}
use Rattle.applications.specs.Candidates.{unfixed_marks}
use Rattle.build_shared.proofs.unfixed.unfixed_marks.Given as goal

abbrev pub invariant-loop-i : goal.invariant-loop-i
invariant-loop-i l = l.left.items ++ unfixed_marks l.fixed l.i (drop l.i l.marks) ≡ unfixed_marks l.fixed 0 l.marks
