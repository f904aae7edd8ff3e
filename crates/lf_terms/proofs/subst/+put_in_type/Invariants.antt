use Rattle.std.proofs.Common.{◌+◌, take, drop}
use Rattle.lf_definitions.specs.Syntax.{pis, family, type_size}
use Rattle.lf_terms.specs.Putting.{Puts, TypeShaped}
use Rattle.lf_terms.specs.Shapes.{simple_types_of}
use Rattle.lf_terms.specs.Terms.{spine_of}
use Rattle.lf_terms.specs.Types.{type_of, types_of}
use Rattle.lf_terms.proofs.PuttingTypes.{BindersPut}
use Rattle.lf_terms.proofs.subst.+put_in_type.Given as goal

abbrev pub decreases-put_in_type : goal.decreases-put_in_type
decreases-put_in_type l = type_size (type_of l.ty.now)

abbrev pub invariant-loop-i : goal.invariant-loop-i
invariant-loop-i l =
    record {
      rest : Puts (spine_of l.images.sub.now) (simple_types_of l.images.shapes.now) l.images.by (l.depth + l.i) (TypeShaped (pis (types_of (drop l.i l.items)) (family l.ty.family l.ty.args)));
      done : BindersPut (spine_of l.images.sub.now) l.images.by l.depth l.i (types_of (take l.i l.items)) (types_of l.binders.items);
    }
