use Rattle.std.proofs.Common.{◌+◌, ◌*◌}
use Rattle.lf_definitions.specs.Syntax.{type_size, types_size}
use Rattle.lf_definitions.specs.Signatures.{kinds_in}
use Rattle.lf_terms.specs.Types.{type_of, types_of}
use Rattle.lf_kernel.specs.Heads.{typing_of}
use Rattle.lf_kernel.proofs.Binders.{FormedUpTo}
use Rattle.lf_kernel.proofs.walk_type.+walk_type.Given as goal

abbrev pub decreases-walk_binders : goal.decreases-walk_binders
decreases-walk_binders l = 2 * types_size (types_of l.binders.now)

abbrev pub decreases-walk_type : goal.decreases-walk_type
decreases-walk_type l = 2 * type_size (type_of l.ty.now) + 1

abbrev pub invariant-walk_binders-loop-i : goal.invariant-walk_binders-loop-i
invariant-walk_binders-loop-i l = FormedUpTo (kinds_in l.place.sig.now) (typing_of l.place) l.binders l.i
