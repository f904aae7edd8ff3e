use Rattle.std.proofs.Common.{◌≡◌, ◌+◌, ap, ◌∙◌, length, length-append, arith}
use Rattle.tree_shape.proofs.Growing.{next_child, next_none}
use Rattle.tree_shape.proofs.grow.add_children.Goals as goal

pub loop-place-preserved : goal.loop-place-preserved
loop-place-preserved c = record {
  above_is = next_child _ _ _ _ _ _ c.loop-place.invariant.above_is c.put_last.ensures.items;
  spans_are = next_none _ _ _ _ c.loop-place.invariant.spans_are c.put_last-in-loop-place.ensures.items;
  above_len = ap length c.put_last.ensures.items ∙ length-append c.loop-place.above.items _ ∙ (let e : length c.loop-place.above.items + 1 ≡ length c.args.above.now.items + (c.loop-place.place + 1) = omega arith in e);
  spans_len = ap length c.put_last-in-loop-place.ensures.items ∙ length-append c.loop-place.spans.items _ ∙ (let e : length c.loop-place.spans.items + 1 ≡ length c.args.spans.now.items + (c.loop-place.place + 1) = omega arith in e);
  above_capacity = omega arith;
  spans_capacity = omega arith;
}
