use Rattle.std.proofs.Common.{◌+◌, ◌*◌, take}
use Rattle.lf_definitions.specs.Syntax.{type_size, types_size}
use Rattle.lf_definitions.specs.Instantiation.{InstantiatedContext}
use Rattle.lf_terms.specs.Types.{type_of, types_of}
use Rattle.meta_goals.specs.Bindings.{assigning}
use Rattle.meta_goals.proofs.type_changes.+changed_type.Given as goal

abbrev pub decreases-changed_type : goal.decreases-changed_type
decreases-changed_type l = 3 * type_size (type_of l.ty.now) + 2

abbrev pub decreases-changed_types : goal.decreases-changed_types
decreases-changed_types l = 3 * types_size l.types.now + 1

abbrev pub decreases-changed_types_from : goal.decreases-changed_types_from
decreases-changed_types_from l = 3 * types_size (types_of l.items.now)

abbrev pub invariant-changed_types-loop-i : goal.invariant-changed_types-loop-i
invariant-changed_types-loop-i l = InstantiatedContext (assigning l.assign) (types_of (take l.i l.items)) (types_of (take l.i l.items))

abbrev pub invariant-changed_types_from-loop-i : goal.invariant-changed_types_from-loop-i
invariant-changed_types_from-loop-i l = InstantiatedContext (assigning l.assign) (types_of (take l.i l.items)) (types_of l.results.items)
