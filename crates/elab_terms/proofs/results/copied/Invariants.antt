use Rattle.std.proofs.Common.{◌≡◌, take, drop}
use Rattle.lf_terms.specs.Types.{types_of}
use Rattle.elab_terms.proofs.results.copied.Given as goal

abbrev pub invariant-loop-i : goal.invariant-loop-i
invariant-loop-i l = types_of l.copies.items ≡ drop l.count (types_of (take l.i l.types))
