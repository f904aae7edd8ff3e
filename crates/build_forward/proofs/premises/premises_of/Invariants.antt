use Rattle.std.proofs.Common.{◌≡◌, ◌++◌, drop}
use Rattle.build_forward.specs.Onwards.{marked_from}
use Rattle.build_forward.proofs.premises.premises_of.Given as goal

abbrev pub invariant-loop-i : goal.invariant-loop-i
invariant-loop-i l = l.premises ++ marked_from l.i (drop l.i l.marks) ≡ marked_from 0 l.marks
