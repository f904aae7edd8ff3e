use Rattle.std.proofs.Common.{◌≡◌, take}
use Rattle.lf_definitions.specs.Renaming.{rename_context, lifted_by}
use Rattle.lf_definitions.specs.Syntax.{type_size}
use Rattle.lf_terms.specs.Types.{type_of, types_of}
use Rattle.meta_openings.specs.Counts.{by_counts}
use Rattle.meta_openings.proofs.renaming.+renamed_type.Given as goal

abbrev pub decreases-renamed_type : goal.decreases-renamed_type
decreases-renamed_type l = type_size (type_of l.ty.now)

abbrev pub invariant-loop-i : goal.invariant-loop-i
invariant-loop-i l = types_of l.binders.items ≡ rename_context (lifted_by l.depth (by_counts l.before l.count)) (types_of (take l.i l.items))
