use Rattle.std.proofs.Common.{◌≡◌, ◌+◌, ◌<◌, length, get_or, ap, ◌∙◌, arith}
use Rattle.goal_clusters.proofs.Deals.{next_dealt, all_dealt, length-dealt, fits_all}
use Rattle.goal_clusters.proofs.deal.deal.Goals as goal

pub index_mut-part-requires : goal.index_mut-part-requires
index_mut-part-requires c =
    let roots = c.args.roots.now in
    let i = c.loop-i.i in
    let items = c.as_slice-items.result.now in
    let long : length c.loop-i.parts.items ≡ length roots = ap length c.loop-i.invariant ∙ length-dealt _ _ _ in
    let fits = fits_all c.args.first items c.args.goals.now (length roots) c.as_slice-items.ensures c.requires.as_long in
    let less : get_or roots (c.args.first + i) 0 < length roots = c.requires.within (c.args.first + i) 0 (omega (arith, fits, c.loop-i-test.true)) in
    omega (arith, long, less, c.loop-i.parts.ok)

pub loop-i-preserved : goal.loop-i-preserved
loop-i-preserved c =
    let roots = c.args.roots.now in
    let i = c.loop-i.i in
    let items = c.as_slice-items.result.now in
    let fits = fits_all c.args.first items c.args.goals.now (length roots) c.as_slice-items.ensures c.requires.as_long in
    next_dealt roots c.args.first items i c.index-items-i.result c.in_ok-copy.field-0 c.loop-i.parts.items c.push.new.self c.index_mut-part.result.now fits c.loop-i-test.true c.index-items-i.is
    (c.requires.within (c.args.first + i) 0 (omega (arith, fits, c.loop-i-test.true))) c.loop-i.invariant c.index_mut-part.ensures.value c.in_ok-copy.ensures c.in_ok-push.ensures.ok

pub returns : goal.returns
returns c = all_dealt _ _ c.as_slice-items.result.now c.loop-i.i c.args.goals.now c.loop-i.parts.items c.loop-i-test.false c.as_slice-items.ensures c.loop-i.invariant
