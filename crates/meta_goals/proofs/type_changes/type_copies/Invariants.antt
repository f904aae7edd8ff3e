use Rattle.std.proofs.Common.{◌≡◌, take}
use Rattle.lf_terms.specs.Types.{types_of}
use Rattle.meta_goals.proofs.type_changes.type_copies.Given as goal

abbrev pub invariant-loop-i : goal.invariant-loop-i
invariant-loop-i l = types_of l.copies.items ≡ types_of (take l.i l.items)
