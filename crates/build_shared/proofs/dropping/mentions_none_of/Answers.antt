use Rattle.std.proofs.Common.{◌<◌, false, get_or, All, sym, ap, ◌∙◌, subst, take_all, arith}
use Rattle.std.specs.Prelude.{not}
use Rattle.std.specs.List.{list_all}
use Rattle.std.proofs.lemmas.List.{get_or_read}
use Rattle.head_laws.specs.Mentions.{occurs_in_type}
use Rattle.lf_terms.specs.Types.{type_of}
use Rattle.opening_laws.specs.Openings.{context_variable}
use Rattle.build_shared.proofs.DroppedPlaces.{test_more, test_fails, place_is_unmentioned, place_has_mark}
use Rattle.build_shared.proofs.dropping.mentions_none_of.Goals as goal

pub index-requires : goal.index-requires
index-requires c =
    let all = subst (All (λ place. place < c.args.count)) (sym c.as_slice-places.ensures) c.requires in
    let within = place_has_mark c.args.count (get_or c.as_slice-places.result.now c.loop-i.i 0) (type_of c.args.ty.now) (type_of c.in_ok-under.under) c.in_ok-marks.marks.items (all c.loop-i.i 0 c.loop-i-test.true)
    c.in_ok-under.ensures c.in_ok-marks.ensures in
    omega (arith, within, c.in_ok-marks.marks.ok.0)

pub returns-then-not-index : goal.returns-then-not-index
returns-then-not-index c =
    let a = c.args in
    let places = c.as_slice-places.result.now in
    let place = get_or places c.loop-i.i 0 in
    let all = subst (All (λ place. place < a.count)) (sym c.as_slice-places.ensures) c.requires in
    let less = all c.loop-i.i 0 c.loop-i-test.true in
    let marks = c.in_ok-marks.marks.items in
    let within = place_has_mark a.count place (type_of a.ty.now) (type_of c.in_ok-under.under) marks less c.in_ok-under.ensures c.in_ok-marks.ensures in
    test_fails (λ q. not (occurs_in_type (context_variable a.count q) (type_of a.ty.now))) places c.loop-i.i c.loop-i-test.true
    (place_is_unmentioned a.count place (type_of a.ty.now) (type_of c.in_ok-under.under) marks c.index.result.now less c.in_ok-under.ensures c.in_ok-marks.ensures (get_or_read marks place c.index.result.now within c.index.ensures false)
    ∙ c.if-not-index.true)
    ∙ ap (list_all (λ q. not (occurs_in_type (context_variable a.count q) (type_of a.ty.now)))) c.as_slice-places.ensures

pub loop-i-preserved : goal.loop-i-preserved
loop-i-preserved c =
    let a = c.args in
    let places = c.as_slice-places.result.now in
    let place = get_or places c.loop-i.i 0 in
    let all = subst (All (λ place. place < a.count)) (sym c.as_slice-places.ensures) c.requires in
    let less = all c.loop-i.i 0 c.loop-i-test.true in
    let marks = c.in_ok-marks.marks.items in
    let within = place_has_mark a.count place (type_of a.ty.now) (type_of c.in_ok-under.under) marks less c.in_ok-under.ensures c.in_ok-marks.ensures in
    test_more (λ q. not (occurs_in_type (context_variable a.count q) (type_of a.ty.now))) places c.loop-i.i c.loop-i-test.true c.loop-i.invariant
    (place_is_unmentioned a.count place (type_of a.ty.now) (type_of c.in_ok-under.under) marks c.index.result.now less c.in_ok-under.ensures c.in_ok-marks.ensures (get_or_read marks place c.index.result.now within c.index.ensures false)
    ∙ c.if-not-index.false)

pub returns : goal.returns
returns c =
    let a = c.args in
    let places = c.as_slice-places.result.now in
    sym c.loop-i.invariant ∙ ap (list_all (λ q. not (occurs_in_type (context_variable a.count q) (type_of a.ty.now)))) (take_all c.loop-i.i places c.loop-i-test.false ∙ c.as_slice-places.ensures)
