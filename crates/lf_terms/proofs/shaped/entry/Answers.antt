use Rattle.lf_terms.proofs.LocalShapes.{shape_at_get, shape_at_past}
use Rattle.lf_terms.proofs.shaped.entry.Goals as goal

pub returns-then-place-items : goal.returns-then-place-items
returns-then-place-items c = shape_at_get c.as_slice-items.result.now c.args.shapes.now c.args.place c.index-items-place.result c.as_slice-items.ensures c.if-place-items.true

pub returns-else-place-items : goal.returns-else-place-items
returns-else-place-items c = shape_at_past c.as_slice-items.result.now c.args.shapes.now c.args.place c.as_slice-items.ensures c.if-place-items.false
