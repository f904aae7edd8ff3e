use Rattle.std.proofs.Common.{◌≡◌, ◌+◌, ◌*◌, take, drop}
use Rattle.lf_definitions.specs.Syntax.{joined, arrows, base, shape_size, shapes_size}
use Rattle.lf_definitions.specs.Expansion.{own_variables}
use Rattle.lf_terms.specs.Shapes.{simple_type_of, simple_types_of}
use Rattle.lf_terms.specs.Terms.{spine_of}
use Rattle.meta_goals.proofs.applied.+own_variables.Given as goal

abbrev pub decreases-are_own_variables : goal.decreases-are_own_variables
decreases-are_own_variables l = 2 * shapes_size (simple_types_of l.shapes.now)

abbrev pub decreases-is_variable : goal.decreases-is_variable
decreases-is_variable l = 2 * shape_size (simple_type_of l.shape.now) + 1

abbrev pub invariant-are_own_variables-loop-i : goal.invariant-are_own_variables-loop-i
invariant-are_own_variables-loop-i l =
    joined (spine_of (take l.i l.terms)) (own_variables (arrows (simple_types_of (drop l.i l.shapes)) base)) ≡ own_variables (arrows (simple_types_of l.shapes) base)
