use Rattle.std.proofs.Common.{◌≡◌, ℕ, suc, ◌+◌, ◌<◌, List, ◌++◌, length, get_or, drop, ap, ◌∙◌, arith}
use Rattle.std.proofs.lemmas.List.{at_drop_more}
use Rattle.build_shared.specs.declared.rule_use.RuleUse.{RuleUse}
use Rattle.build_shared.proofs.AddedCandidates.{less_is_left}
use Rattle.build_apply.specs.Offers.{of_constant}
use Rattle.build_apply.proofs.Offers.{constructed_from}
use Rattle.build_apply.proofs.constants.add_constants.Goals as goal

constructed_more : (u : RuleUse) (i : ℕ) (items : List ℕ) → i < length items → constructed_from u i (drop i items) ≡ of_constant u i (get_or items i 0) ++ constructed_from u (i + 1) (drop (i + 1) items)
constructed_more u i items less =
    let next : suc i ≡ i + 1 = omega arith in
    at_drop_more (constructed_from u i) items i 0 less ∙ ap (λ p. of_constant u i (get_or items i 0) ++ constructed_from u p (drop (i + 1) items)) next

pub loop-i-preserved : goal.loop-i-preserved
loop-i-preserved c =
    let u = c.args.usage.now in
    let items = c.as_slice-items.result.now in
    let i = c.loop-i.i in
    let less : i < length items = omega (arith, c.loop-i-test.true) in
    record {
      left = less_is_left u (of_constant u i (get_or items i 0)) (constructed_from u (i + 1) (drop (i + 1) items)) (constructed_from u i (drop i items)) (constructed_from u 0 c.args.constants.now)
          c.args.found.now.items c.loop-i.found.items _ (constructed_more u i items less) c.loop-i.invariant.left c.in_ok-add_constant.ensures.found;
      shapes = λ before. c.in_ok-add_constant.ensures.shapes (c.loop-i.invariant.shapes before);
    }
