use Rattle.std.proofs.Common.{◌≡◌, ◌++◌, take}
use Rattle.lf_terms.specs.Types.{types_of}
use Rattle.meta_openings.proofs.lists.add_types.Given as goal

abbrev pub invariant-loop-i : goal.invariant-loop-i
invariant-loop-i l = types_of l.types.items ≡ types_of l.initial.types.items ++ types_of (take l.i l.more)
