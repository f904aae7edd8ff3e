use Rattle.std.proofs.Common.{take}
use Rattle.lf_terms.specs.Extents.{Covers, InContext}
use Rattle.lf_terms.specs.Types.{types_of}
use Rattle.lf_terms.proofs.ty.extent_of.Given as goal

abbrev pub invariant-loop-i : goal.invariant-loop-i
invariant-loop-i l = Covers l.extent (InContext (types_of (take l.i l.types)))
