use Rattle.std.proofs.Common.{◌≡◌, ◌+◌, ◌*◌, ◌++◌, take}
use Rattle.lf_definitions.specs.Syntax.{type_size, types_size}
use Rattle.lf_terms.specs.Types.{type_of, types_of}
use Rattle.goal_clusters.specs.Mentioned.{numbers_in_context}
use Rattle.goal_clusters.proofs.mentioned.+add_type.Given as goal

abbrev pub decreases-add_type : goal.decreases-add_type
decreases-add_type l = 2 * type_size (type_of l.ty.now) + 1

abbrev pub decreases-add_types : goal.decreases-add_types
decreases-add_types l = 2 * types_size l.types.now

abbrev pub invariant-add_types-loop-i : goal.invariant-add_types-loop-i
invariant-add_types-loop-i l = l.numbers.items ≡ l.fn.numbers.items ++ numbers_in_context (types_of (take l.i l.items))
