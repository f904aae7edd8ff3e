use Rattle.std.proofs.Common.{◌≡◌, ◌++◌, replicate, take}
use Rattle.lf_definitions.specs.Syntax.{family, no_args}
use Rattle.lf_terms.specs.Types.{types_of}
use Rattle.build_shared.proofs.dropping.under_binders.Given as goal

abbrev pub invariant-loop-i : goal.invariant-loop-i
invariant-loop-i l = types_of l.types.items ≡ replicate l.count (family 0 no_args) ++ types_of (take l.i l.items)
