use Rattle.std.specs.Prelude.{nat_eq}
use Rattle.indexmap.specs.IndexMap.{get}
use Rattle.proof_extract.specs.Tables.{moves}
use Rattle.proof_extract.proofs.Insides.{one_more_inside}
use Rattle.proof_extract.proofs.moved.moved_of.Goals as goal

pub loop-i-preserved : goal.loop-i-preserved
loop-i-preserved c =
    one_more_inside (λ m. moves c.args.node (get nat_eq c.args.carried.now m)) c.as_slice-items.result.now c.loop-i.i c.index-items-i.result c.loop-i.moved c.add_moved.new.moved c.loop-i-test.true c.index-items-i.is
    c.loop-i.invariant c.in_ok-add_moved.ensures
