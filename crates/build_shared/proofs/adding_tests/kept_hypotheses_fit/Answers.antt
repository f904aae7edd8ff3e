use Rattle.std.proofs.Common.{map, sym, ap, ◌∙◌, take_all}
use Rattle.lf_terms.specs.Types.{type_of}
use Rattle.applications.specs.Applications.{kept_types_are}
use Rattle.build_shared.specs.Added.{fits_beside}
use Rattle.build_shared.specs.Seen.{seen_hypothesis}
use Rattle.build_shared.proofs.AddingTests.{types_more, types_fail}
use Rattle.build_shared.proofs.adding_tests.kept_hypotheses_fit.Goals as goal

pub returns-then-not-branch : goal.returns-then-not-branch
returns-then-not-branch c =
    let test = fits_beside c.args.goal.now.ctx c.args.dropped.now (type_of c.args.fact.now) in
    types_fail test c.args.kept.now c.as_slice-items.result.now c.loop-i.i c.index-items-i.result c.loop-i-test.true c.index-items-i.is (sym c.in_ok-hypothesis_fits.ensures ∙ c.if-not-branch.true)
    ∙ ap (λ l. kept_types_are test c.args.kept.now (map seen_hypothesis l)) c.as_slice-items.ensures.value ∙ ap (kept_types_are test c.args.kept.now) c.in_ok-found.ensures

pub loop-i-preserved : goal.loop-i-preserved
loop-i-preserved c =
    types_more (fits_beside c.args.goal.now.ctx c.args.dropped.now (type_of c.args.fact.now)) c.args.kept.now c.as_slice-items.result.now c.loop-i.i c.index-items-i.result c.loop-i-test.true c.index-items-i.is c.loop-i.invariant
    (sym c.in_ok-hypothesis_fits.ensures ∙ c.if-not-branch.false)

pub returns : goal.returns
returns c =
    let test = fits_beside c.args.goal.now.ctx c.args.dropped.now (type_of c.args.fact.now) in
    sym c.loop-i.invariant ∙ ap (λ l. kept_types_are test c.args.kept.now (map seen_hypothesis l)) (take_all c.loop-i.i c.as_slice-items.result.now c.loop-i-test.false ∙ c.as_slice-items.ensures.value)
    ∙ ap (kept_types_are test c.args.kept.now) c.in_ok-found.ensures
