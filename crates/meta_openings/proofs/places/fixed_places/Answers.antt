use Rattle.std.proofs.Common.{◌≡◌, ◌<◌, [], All, Some, None, get_or, set, replicate, refl, rules, arith, sym, ap, ◌∙◌, subst}
use Rattle.std.proofs.lemmas.List.{get_or_read}
use Rattle.std.specs.Option.{option_or}
use Rattle.meta_openings.specs.Tables.{AreFixed}
use Rattle.meta_openings.proofs.Tables.{fixed_begin, fixed_more, fixed_end}
use Rattle.meta_openings.proofs.places.fixed_places.Goals as goal

pub loop-i-init : goal.loop-i-init
loop-i-init c =
    let is : c.in_ok-places.places.items ≡ replicate c.args.count None = search rules in
    subst (AreFixed [] c.args.count) (sym is) (fixed_begin c.as_slice-pairs.result.now c.args.count)

pub loop-i-preserved : goal.loop-i-preserved
loop-i-preserved c =
    let pairs = c.as_slice-pairs.result.now in
    let pair = get_or pairs c.loop-i.i (0, 0) in
    let old = c.loop-i.places.items in
    let all = subst (All (λ x. x.0 < c.args.count)) (sym c.as_slice-pairs.ensures) c.requires in
    let less = all c.loop-i.i (0, 0) c.loop-i-test.true in
    fixed_more pairs c.args.count c.loop-i.i pair old _ c.loop-i-test.true refl less
    (ap (set old pair.0) (c.or.ensures ∙ ap (λ o. option_or o (Some pair.1)) (get_or_read old pair.0 c.index.result.now (omega (arith, less, c.loop-i.invariant.each)) c.index.ensures None)))
    c.loop-i.invariant

pub returns : goal.returns
returns c = fixed_end c.as_slice-pairs.result.now c.args.fixed.now c.args.count c.loop-i.i c.loop-i.places.items c.loop-i-test.false c.as_slice-pairs.ensures c.loop-i.invariant
