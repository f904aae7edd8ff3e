use Rattle.lf_terms.proofs.ShapeLists.{shape_read}
use Rattle.lf_terms.proofs.shape.copied.Goals as goal

pub loop-shape-preserved : goal.loop-shape-preserved
loop-shape-preserved c =
    shape_read c.args.shapes.now _ _ c.loop-shape.shape-index c.shape-item.result _ c.loop-shape-test.true c.shape-item.is c.in_ok-push.ensures.items c.loop-shape.invariant c.in_ok-copy.ensures
