use Rattle.std.proofs.Common.{ap}
use Rattle.build_shared.proofs.RaisedTypes.{entry_has_shapes}
use Rattle.build_shared.proofs.ContextEntries.{found_more}
use Rattle.build_shared.proofs.hypotheses.hypotheses.Goals as goal

pub raised-requires : goal.raised-requires
raised-requires c =
    entry_has_shapes c.as_slice-types.result.now c.args.ctx.now c.loop-i.i c.index-types-i.result c.loop-i-test.true c.index-types-i.is c.as_slice-types.ensures c.requires

pub loop-i-preserved : goal.loop-i-preserved
loop-i-preserved c =
    let place = c.loop-i.i in
    found_more c.as_slice-types.result.now c.loop-i.found.items _ place c.index-types-i.result _ c.loop-i-test.true c.index-types-i.is c.in_ok-push.ensures.items
    (ap (λ a. record { place = place; type = a }) c.in_ok-ty.ensures) c.loop-i.invariant
