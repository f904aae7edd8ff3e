use Rattle.std.proofs.Common.{◌≡◌, ◌+◌, ◌*◌, take}
use Rattle.lf_definitions.specs.Syntax.{type_size, types_size}
use Rattle.lf_definitions.specs.Renaming.{rename_context}
use Rattle.lf_definitions.specs.Instantiation.{metavariables}
use Rattle.head_laws.specs.Renumbering.{place_of_number}
use Rattle.lf_terms.specs.Types.{type_of, types_of}
use Rattle.meta_goals.proofs.renumber.+renumbered_type.Given as goal

abbrev pub decreases-renumbered_type : goal.decreases-renumbered_type
decreases-renumbered_type l = 2 * type_size (type_of l.ty.now) + 1

abbrev pub decreases-renumbered_types : goal.decreases-renumbered_types
decreases-renumbered_types l = 2 * types_size l.types.now

abbrev pub invariant-renumbered_types-loop-i : goal.invariant-renumbered_types-loop-i
invariant-renumbered_types-loop-i l = types_of l.results.items ≡ rename_context (metavariables (place_of_number l.places)) (types_of (take l.i l.items))
