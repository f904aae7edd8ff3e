use Rattle.std.proofs.Common.{◌+◌, ◌*◌}
use Rattle.lf_definitions.specs.Syntax.{family, type_size}
use Rattle.lf_terms.specs.Types.{type_of}
use Rattle.file_print.proofs.TextSteps.{PrintedBinders}
use Rattle.file_print.proofs.printing.+append_type.Given as goal

abbrev pub decreases-append_type : goal.decreases-append_type
decreases-append_type l = 3 * type_size (type_of l.ty.now)

abbrev pub decreases-append_left : goal.decreases-append_left
decreases-append_left l = 3 * type_size (type_of l.ty.now) + 1

abbrev pub decreases-append_binder : goal.decreases-append_binder
decreases-append_binder l = 3 * type_size (type_of l.ty.now) + 2

abbrev pub invariant-append_type-loop-binder : goal.invariant-append_type-loop-binder
invariant-append_type-loop-binder l =
    PrintedBinders l.sig l.binders (family l.ty.family l.ty.args) l.marks l.binder-index l.initial.inside l.inside l.initial.next l.next l.initial.out l.out
