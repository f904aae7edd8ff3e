use Rattle.std.proofs.Common.{◌≡◌, ◌+◌, take}
use Rattle.lf_definitions.specs.Syntax.{type_size, types_size}
use Rattle.lf_terms.specs.Types.{type_of, types_of}
use Rattle.lf_terms.proofs.same.+same_ty.Given as goal

abbrev pub decreases-same_ty : goal.decreases-same_ty
decreases-same_ty l = type_size (type_of l.a.now) + 1

abbrev pub decreases-same_tys : goal.decreases-same_tys
decreases-same_tys l = types_size l.a.now

abbrev pub invariant-same_tys-loop-i : goal.invariant-same_tys-loop-i
invariant-same_tys-loop-i l = types_of (take l.i l.types) ≡ types_of (take l.i l.others)
