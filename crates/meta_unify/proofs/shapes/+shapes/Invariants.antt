use Rattle.std.proofs.Common.{◌≡◌, ◌++◌, drop}
use Rattle.lf_definitions.specs.Syntax.{term_size, spine_size}
use Rattle.lf_terms.specs.Terms.{term_of, spine_of}
use Rattle.lf_terms.specs.Shapes.{simple_types_of}
use Rattle.meta_unify.specs.Shapes.{shapes_shown}
use Rattle.meta_unify.proofs.shapes.+shapes.Given as goal

abbrev pub decreases-shape_shown : goal.decreases-shape_shown
decreases-shape_shown l = term_size (term_of l.term.now)

abbrev pub decreases-shapes_shown : goal.decreases-shapes_shown
decreases-shapes_shown l = spine_size l.terms.now

abbrev pub invariant-shapes_shown-loop-i : goal.invariant-shapes_shown-loop-i
invariant-shapes_shown-loop-i l = shapes_shown l.terms ≡ simple_types_of l.shapes.items ++ shapes_shown (spine_of (drop l.i l.items))
