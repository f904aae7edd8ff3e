use Rattle.std.proofs.Common.{◌≡◌, ◌<◌, [], All, false, replicate, refl, rules, arith, sym, subst}
use Rattle.meta_openings.specs.Tables.{AreMarks}
use Rattle.meta_openings.proofs.Tables.{marks_begin, marks_more, marks_end}
use Rattle.meta_openings.proofs.places.marks_of.Goals as goal

pub loop-i-init : goal.loop-i-init
loop-i-init c =
    let is : c.in_ok-marks.marks.items ≡ replicate c.args.count false = search rules in
    subst (AreMarks [] c.args.count) (sym is) (marks_begin c.as_slice-places.result.now c.args.count)

pub index_mut-requires : goal.index_mut-requires
index_mut-requires c =
    let all = subst (All (λ place. place < c.args.count)) (sym c.as_slice-places.ensures) c.requires in
    omega (arith, all c.loop-i.i 0 c.loop-i-test.true, c.loop-i.invariant.as_many, c.loop-i.marks.ok.0)

pub loop-i-preserved : goal.loop-i-preserved
loop-i-preserved c =
    let all = subst (All (λ place. place < c.args.count)) (sym c.as_slice-places.ensures) c.requires in
    marks_more c.as_slice-places.result.now c.args.count c.loop-i.i _ c.loop-i.marks.items _ c.loop-i-test.true refl (all c.loop-i.i 0 c.loop-i-test.true) refl c.loop-i.invariant

pub returns : goal.returns
returns c = marks_end c.as_slice-places.result.now c.args.kept.now c.args.count c.loop-i.i c.loop-i.marks.items c.loop-i-test.false c.as_slice-places.ensures c.loop-i.invariant
