use Rattle.lf_terms.proofs.Extents.{covers_more}
use Rattle.lf_terms.proofs.term.extent_of.Goals as goal

pub loop-term-preserved : goal.loop-term-preserved
loop-term-preserved c =
    covers_more c.loop-term.extent c.extent.result c.joined-extent.result c.args.terms.now c.loop-term.term-index c.term-item.result c.loop-term-test.true c.term-item.is
    c.joined-extent.ensures.first c.joined-extent.ensures.second c.loop-term.invariant c.extent.ensures
