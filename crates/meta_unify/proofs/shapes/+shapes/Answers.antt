use Rattle.std.proofs.Common.{ap, arith}
use Rattle.lf_definitions.specs.Syntax.{spine_size}
use Rattle.lf_terms.proofs.Spines.{item_size}
use Rattle.meta_unify.proofs.Solvable.{shapes_more}
use Rattle.meta_unify.proofs.shapes.+shapes.Goals as goal

pub shapes_shown-shape_shown-requires : goal.shapes_shown-shape_shown-requires
shapes_shown-shape_shown-requires t c =
    (omega (arith, c.decreases, ap spine_size c.as_slice-items.ensures, item_size c.as_slice-items.result.now c.loop-i.i c.index-items-i.result c.loop-i-test.true c.index-items-i.is), tt)

pub shapes_shown-loop-i-preserved : goal.shapes_shown-loop-i-preserved
shapes_shown-loop-i-preserved t c =
    shapes_more c.args.terms.now c.as_slice-items.result.now c.loop-i.shapes.items c.push.new.self.items c.loop-i.i c.index-items-i.result c.in_ok-shape_shown.field-0 c.loop-i-test.true c.index-items-i.is
    c.in_ok-push.ensures.items c.in_ok-shape_shown.ensures c.loop-i.invariant
