use Rattle.std.proofs.Common.{arith, ap, length}
use Rattle.lf_terms.proofs.ShapeLists.{length-simple_types_of}
use Rattle.lf_terms.proofs.LocalShapes.{newest_at, newest_past}
use Rattle.lf_terms.proofs.shaped.newest.Goals as goal

pub returns-then-number-count : goal.returns-then-number-count
returns-then-number-count c = newest_at c.as_slice-items.result.now c.args.number c.index-items-count.result c.args.shapes.now c.as_slice-items.ensures c.if-number-count.true

pub returns-else-number-count : goal.returns-else-number-count
returns-else-number-count c =
    newest_past c.args.shapes.now c.args.number
    (omega (arith, c.if-number-count.false, ap length c.as_slice-items.ensures, length-simple_types_of c.as_slice-items.result.now))
