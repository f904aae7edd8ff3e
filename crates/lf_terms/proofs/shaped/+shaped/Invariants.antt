use Rattle.std.proofs.Common.{◌↔◌, ◌+◌, ◌*◌}
use Rattle.lf_definitions.specs.Syntax.{arrows, base, term_size, spine_size}
use Rattle.lf_definitions.specs.Shaping.{ShapedSpine, globals}
use Rattle.lf_terms.specs.LocalShapes.{scope_under}
use Rattle.lf_terms.specs.Terms.{term_of, spine_of}
use Rattle.lf_terms.specs.Shapes.{simple_types_of}
use Rattle.lf_terms.proofs.LocalShapes.{RestShaped}
use Rattle.lf_terms.proofs.shaped.+shaped.Given as goal

abbrev pub decreases-shaped_args : goal.decreases-shaped_args
decreases-shaped_args l = 2 * spine_size l.args.now

abbrev pub decreases-shaped_at : goal.decreases-shaped_at
decreases-shaped_at l = 2 * term_size (term_of l.body.now)

abbrev pub decreases-shaped_in : goal.decreases-shaped_in
decreases-shaped_in l = 2 * term_size (term_of l.term.now) + 1

abbrev pub invariant-shaped_args-loop-i : goal.invariant-shaped_args-loop-i
invariant-shaped_args-loop-i l =
    RestShaped (scope_under (globals l.sig l.metas) l.scope) l.terms l.shapes l.i
    ↔ ShapedSpine (scope_under (globals l.sig l.metas) l.scope) (spine_of l.terms) (arrows (simple_types_of l.shapes) base)
