use Rattle.std.proofs.Common.{◌≡◌, ◌+◌, ◌*◌, drop}
use Rattle.lf_definitions.specs.Syntax.{joined, arrows, base, shape_size, shapes_size}
use Rattle.lf_definitions.specs.Expansion.{own_variables}
use Rattle.lf_terms.specs.Shapes.{simple_type_of, simple_types_of}
use Rattle.lf_terms.specs.Terms.{spine_of}
use Rattle.lf_terms.proofs.eta.+eta.Given as goal

abbrev pub decreases-eta : goal.decreases-eta
decreases-eta l = 2 * shape_size (simple_type_of l.shape.now) + 1

abbrev pub decreases-own_variables : goal.decreases-own_variables
decreases-own_variables l = 2 * shapes_size l.shapes.now

abbrev pub invariant-own_variables-loop-i : goal.invariant-own_variables-loop-i
invariant-own_variables-loop-i l =
    joined (spine_of l.terms.items) (own_variables (arrows (simple_types_of (drop l.i l.items)) base)) ≡ own_variables (arrows (simple_types_of l.items) base)
