use Rattle.lf_definitions.specs.Syntax.{family, type_size}
use Rattle.lf_terms.specs.Types.{type_of}
use Rattle.binder_marks.proofs.MarkSteps.{MarkedSoFar}
use Rattle.binder_marks.proofs.marking.+mark_type.Given as goal

abbrev pub decreases-mark_type : goal.decreases-mark_type
decreases-mark_type l = type_size (type_of l.ty.now)

abbrev pub invariant-loop-binder : goal.invariant-loop-binder
invariant-loop-binder l = MarkedSoFar l.binders (family l.ty.family l.ty.args) l.binder-index l.initial.places.items l.initial.marks.items l.places.items l.marks.items
