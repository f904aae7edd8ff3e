use Rattle.std.proofs.Common.{[], ◌∷◌, map, All, refl, sym, ap, ◌∙◌, subst, ◌+◌}
use Rattle.lf_definitions.specs.ShapedGoals.{scope_in, kind_shapes_in}
use Rattle.lf_definitions.specs.GoalLists.{all_goals}
use Rattle.lf_terms.specs.Targets.{goal_of}
use Rattle.applications.specs.Candidates.{hypotheses_of, by_hypothesis}
use Rattle.meta_goals.specs.GoalsOf.{goals_of}
use Rattle.build_shared.specs.Seen.{seen_hypothesis}
use Rattle.build_shared.proofs.AddedCandidates.{IsLeft, less_is_left, nothing_is_left}
use Rattle.build_shared.proofs.WholeUses.{first_is_shaped}
use Rattle.build_apply.proofs.Heads.{IsHeadOf, hypotheses_are_heads}
use Rattle.build_apply.proofs.Offers.{offered, offered_from, offered_more, offered_last, holds_of_read}
use Rattle.build_apply.proofs.hypotheses.add_hypotheses.Goals as goal

pub hypotheses-requires : goal.hypotheses-requires
hypotheses-requires c =
    let u = c.args.usage.now in
    let goals = goals_of u.goals.now in
    (kind_shapes_in u.sig.now, scope_in u.sig.now (all_goals goals) [], (first_is_shaped u.sig.now goals u.first (goal_of u.goal.now) c.requires.goals).0)

pub loop-i-init : goal.loop-i-init
loop-i-init c =
    let u = c.args.usage.now in
    let f = by_hypothesis u.rule (goal_of u.goal.now) u.first in
    let all = ap (map seen_hypothesis) c.as_slice-items.ensures.value ∙ c.in_ok-all.ensures in
    record {
      left = subst (λ hs. IsLeft u (offered f c.args.atomic hs) (offered f c.args.atomic (hypotheses_of u.goal.now.ctx)) c.args.found.now.items c.args.found.now.items) (sym all) refl;
      shapes = λ before. before;
    }

pub add_of_kind-requires-clause-head : goal.add_of_kind-requires-clause-head
add_of_kind-requires-clause-head c =
    let u = c.args.usage.now in
    let goals = goals_of u.goals.now in
    let g = goal_of u.goal.now in
    let all = ap (map seen_hypothesis) c.as_slice-items.ensures.value ∙ c.in_ok-all.ensures in
    holds_of_read (IsHeadOf u.sig.now (all_goals goals) g) c.as_slice-items.result.now c.loop-i.i c.index-items-i.result c.loop-i-test.true c.index-items-i.is
    (subst (All (IsHeadOf u.sig.now (all_goals goals) g)) (sym all) (hypotheses_are_heads u.sig.now (all_goals goals) g (first_is_shaped u.sig.now goals u.first g c.requires.goals)))

pub loop-i-preserved : goal.loop-i-preserved
loop-i-preserved c =
    let u = c.args.usage.now in
    let f = by_hypothesis u.rule (goal_of u.goal.now) u.first in
    let items = c.as_slice-items.result.now in
    let i = c.loop-i.i in
    let h = c.index-items-i.result in
    record {
      left = less_is_left u (offered f c.args.atomic (seen_hypothesis h ∷ [])) (offered_from f c.args.atomic (i + 1) items) (offered_from f c.args.atomic i items)
          (offered f c.args.atomic (hypotheses_of u.goal.now.ctx)) c.args.found.now.items c.loop-i.found.items _ (offered_more f c.args.atomic i items h c.loop-i-test.true c.index-items-i.is)
          c.loop-i.invariant.left c.in_ok-add_of_kind.ensures.found;
      shapes = λ before. c.in_ok-add_of_kind.ensures.shapes (c.loop-i.invariant.shapes before);
    }

pub returns-clause-found : goal.returns-clause-found
returns-clause-found c =
    let u = c.args.usage.now in
    let f = by_hypothesis u.rule (goal_of u.goal.now) u.first in
    nothing_is_left u (offered_from f c.args.atomic c.loop-i.i c.as_slice-items.result.now) (offered f c.args.atomic (hypotheses_of u.goal.now.ctx)) c.args.found.now.items c.loop-i.found.items
    (offered_last f c.args.atomic c.loop-i.i c.as_slice-items.result.now c.loop-i-test.false) c.loop-i.invariant.left
