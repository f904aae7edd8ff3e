use Rattle.std.proofs.Common.{arith}
use Rattle.tree_queue.specs.Orders.{IsPlaced}
use Rattle.tree_steps.proofs.ChildEntries.{alike_at, put_more}
use Rattle.tree_steps.proofs.children.put_alike.Goals as goal

pub put-requires-clause-entry : goal.put-requires-clause-entry
put-requires-clause-entry c = alike_at (IsPlaced c.args.shape.now.shape) c.args.first.node c.args.first.depth c.args.first.priority c.args.count c.requires.placed c.loop-place.place c.loop-place-test.true

pub loop-place-preserved : goal.loop-place-preserved
loop-place-preserved c =
    let before = c.loop-place.invariant in
    record {
      queue = c.put.ensures.queue;
      put = put_more c.args.first.node c.args.first.depth c.args.first.priority c.loop-place.place c.args.queue.now.entries c.loop-place.queue.entries c.put.new.self.entries before.put c.put.ensures.added;
      spare = omega (arith, c.put.ensures.spare, before.spare);
    }
