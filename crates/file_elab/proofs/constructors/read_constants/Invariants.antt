use Rattle.std.proofs.Common.{◌≡◌, map, take}
use Rattle.file_elab.specs.Constructors.{number_in}
use Rattle.file_elab.proofs.constructors.read_constants.Given as goal

abbrev pub invariant-loop-i : goal.invariant-loop-i
invariant-loop-i l = l.numbers ≡ map (number_in l.source l.sig) (take l.i l.spans)
