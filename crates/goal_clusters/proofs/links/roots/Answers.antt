use Rattle.std.proofs.Common.{ℕ, ◌<◌, length, inl, inr, refl, sym, ◌∙◌, subst, get_or, arith}
use Rattle.std.proofs.lemmas.List.{get_or_default}
use Rattle.goal_clusters.proofs.LinkLaws.{one_more_root}
use Rattle.goal_clusters.proofs.links.roots.Goals as goal
use Rattle.goal_clusters.proofs.links.roots.Goals.{then-above-place, else-above-place}

pub loop-place-preserved : goal.loop-place-preserved
loop-place-preserved c =
    let links = c.args.links.now in
    let place = c.loop-place.place in
    let within : (k : ℕ) → k < place → k < length c.loop-place.found.items = λ k less. subst (λ n. k < n) (sym c.loop-place.invariant.as_long) less in
    record {
      as_long = grind (arith, c.in_ok-push.ensures.items, c.loop-place.invariant.as_long);
      are_roots =
          λ root t.
          one_more_root links c.loop-place.found.items place (get_or links place 0) c.if-above-place.root c.push.new.self.items root t c.loop-place-test.true refl (c.loop-place.invariant.are_roots root t)
          (elim c.if-above-place.branch [
            | then-above-place w ↦ inl (w.if-above-place.true, w.root-is ∙ w.index.ensures ∙ get_or_default c.loop-place.found.items (get_or links place 0) w.index.result.now 0 (within _ w.if-above-place.true))
            | else-above-place w ↦ inr (omega (arith, w.if-above-place.false, c.requires place c.loop-place-test.true), w.root-is)
          ])
          c.in_ok-push.ensures.items;
    }
