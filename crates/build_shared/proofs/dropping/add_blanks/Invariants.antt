use Rattle.std.proofs.Common.{◌≡◌, ◌++◌, replicate}
use Rattle.lf_definitions.specs.Syntax.{family, no_args}
use Rattle.lf_terms.specs.Types.{types_of}
use Rattle.build_shared.proofs.dropping.add_blanks.Given as goal

abbrev pub invariant-loop : goal.invariant-loop
invariant-loop l = types_of l.types.items ≡ types_of l.fn.types.items ++ replicate l.counter (family 0 no_args)
