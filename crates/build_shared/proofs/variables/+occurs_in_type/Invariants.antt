use Rattle.std.proofs.Common.{◌≡◌, ◌+◌, ◌*◌, drop}
use Rattle.lf_definitions.specs.Syntax.{bound, type_size, types_size}
use Rattle.head_laws.specs.Mentions.{occurs_in_context}
use Rattle.lf_terms.specs.Types.{type_of, types_of}
use Rattle.build_shared.proofs.variables.+occurs_in_type.Given as goal

abbrev pub decreases-occurs_in_type : goal.decreases-occurs_in_type
decreases-occurs_in_type l = 2 * type_size (type_of l.ty.now) + 1

abbrev pub decreases-occurs_in_types : goal.decreases-occurs_in_types
decreases-occurs_in_types l = 2 * types_size (types_of l.types.now)

abbrev pub invariant-occurs_in_types-loop-i : goal.invariant-occurs_in_types-loop-i
invariant-occurs_in_types-loop-i l = occurs_in_context (bound l.number) (types_of l.types) ≡ occurs_in_context (bound (l.number + l.i)) (types_of (drop l.i l.types))
