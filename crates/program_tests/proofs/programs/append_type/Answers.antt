use Rattle.lf_terms.specs.Types.{type_of}
use Rattle.printed_types.proofs.PrintableTypes.{constant_printable}
use Rattle.program_tests.proofs.programs.append_type.Goals as goal

pub print_type-requires : goal.print_type-requires
print_type-requires c =
    constant_printable c.args.sig.now c.args.constant (type_of c.type_of.result.now) c.is_formed.ensures c.type_of.ensures
