use Rattle.lf_terms.proofs.Extents.{covers_more_types}
use Rattle.lf_terms.proofs.ty.extent_of.Goals as goal

pub loop-i-preserved : goal.loop-i-preserved
loop-i-preserved c =
    covers_more_types c.loop-i.extent c.extent.result c.outside.result c.joined-extent.result c.args.types.now c.loop-i.i c.index-types-i.result c.loop-i-test.true c.index-types-i.is
    c.outside.ensures c.joined-extent.ensures.first c.joined-extent.ensures.second c.loop-i.invariant c.extent.ensures
