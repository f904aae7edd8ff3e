use Rattle.std.proofs.Common.{◌+◌}
use Rattle.lf_definitions.specs.Syntax.{type_size, types_size}
use Rattle.lf_terms.specs.Types.{type_of}
use Rattle.test_goals.proofs.writing.+append_type.Given as goal

abbrev pub decreases-append_type : goal.decreases-append_type
decreases-append_type l = type_size (type_of l.ty.now) + 1

abbrev pub decreases-append_binders : goal.decreases-append_binders
decreases-append_binders l = types_size l.types.now
