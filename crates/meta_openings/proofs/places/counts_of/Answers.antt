use Rattle.std.proofs.Common.{arith}
use Rattle.meta_openings.proofs.Tables.{counts_begin, counts_more, counts_end}
use Rattle.meta_openings.proofs.places.counts_of.Goals as goal

pub loop-place-init : goal.loop-place-init
loop-place-init c = counts_begin c.args.kept.now _ _ c.new-before.ensures.items c.in_ok-push.ensures.items

pub loop-place-preserved : goal.loop-place-preserved
loop-place-preserved c =
    let place = c.loop-place.place in
    counts_more c.args.kept.now place c.loop-place.count _ _ c.loop-place.before.items _ (c.requires.marked place c.loop-place-test.true)
    c.in_ok-count.ensures c.in_ok-push-2.ensures.items c.loop-place.invariant

pub returns : goal.returns
returns c = counts_end c.args.kept.now c.loop-place.place _ c.loop-place.count c.loop-place.before.items (omega arith) c.loop-place.invariant
