use Rattle.std.proofs.Common.{◌≡◌, ◌<◌, ◌≤◌, false, length, get_or, refl, sym, ap, ◌∙◌, subst, arith}
use Rattle.build_shared.specs.Remaining.{AreFresh}
use Rattle.std.proofs.lemmas.List.{length-map}
use Rattle.std.proofs.lemmas.List.Elements.{All-weaker, All-contains_itself, Contains-append_right}
use Rattle.std.specs.Prelude.{Contains}
use Rattle.lf_terms.specs.Targets.{goal_of}
use Rattle.meta_goals.specs.Bindings.{assigning}
use Rattle.build_shared.specs.Attempts.{goals_at, goal_at, candidate_at, among_at}
use Rattle.build_shared.specs.Completed.{seen_completed}
use Rattle.build_shared.proofs.WholeBindings.{each_leaves}
use Rattle.build_shared.proofs.FreshParts.{fresh_more, fresh_all, goal_read}
use Rattle.build_shared.proofs.remaining.fresh_goals.Goals as goal

pub loop-i-init : goal.loop-i-init
loop-i-init c = record { all_are = c.new.ensures; proofs_are = c.new-2.ensures; witnesses_are = c.new-3.ensures }

pub bounds-marks-i : goal.bounds-marks-i
bounds-marks-i c =
    let a = c.args.attempt.now in
    let goals = c.as_slice-goals.result.now in
    let counts : length goals ≡ length a.candidate.now.opened.fresh = sym (length-map goals goal_of) ∙ ap length c.as_slice-goals.ensures in
    omega (arith, c.loop-i-test.true, counts, c.requires.1.completed_at.unified_by.unified.may_be_used.have_marks, ap length c.as_slice-marks.ensures.value)

pub add_fresh-requires : goal.add_fresh-requires
add_fresh-requires c =
    let a = c.args.attempt.now in
    let w = c.requires.1 in
    let fresh = a.candidate.now.opened.fresh in
    each_leaves a.sig.now (goals_at a) a.first (goal_at a) (candidate_at a) c.requires.0 (seen_completed c.args.done.now) w.completed_at c.args.whole.now.all c.args.whole.now.others w.others_are w.all_are
    (goal_of c.index-goals-i.result)
    (goal_read (Contains (among_at a)) c.as_slice-goals.result.now c.loop-i.i c.index-goals-i.result fresh c.loop-i-test.true c.index-goals-i.is c.as_slice-goals.ensures
    (All-weaker (Contains fresh) (Contains (among_at a)) (λ h there. Contains-append_right (goals_at a) fresh h there) fresh (All-contains_itself fresh)))

pub loop-i-preserved : goal.loop-i-preserved
loop-i-preserved c =
    let a = c.args.attempt.now in
    let goals = c.as_slice-goals.result.now in
    let marks = c.as_slice-marks.result.now in
    let counts : length goals ≡ length a.candidate.now.opened.fresh = sym (length-map goals goal_of) ∙ ap length c.as_slice-goals.ensures in
    let marked : c.loop-i.i < length marks = omega (arith, c.loop-i-test.true, counts, c.requires.1.completed_at.unified_by.unified.may_be_used.have_marks, ap length c.as_slice-marks.ensures.value) in
    fresh_more (among_at a) (assigning c.args.whole.now.all) goals marks c.loop-i.i c.index-goals-i.result (get_or marks c.loop-i.i false) c.loop-i.fresh c.add_fresh.new.fresh c.loop-i-test.true marked c.index-goals-i.is refl
    c.loop-i.invariant c.in_ok-add_fresh.ensures

pub returns : goal.returns
returns c =
    let a = c.args.attempt.now in
    let goals = c.as_slice-goals.result.now in
    let marks = c.as_slice-marks.result.now in
    let counts : length goals ≡ length a.candidate.now.opened.fresh = sym (length-map goals goal_of) ∙ ap length c.as_slice-goals.ensures in
    let marked : length marks ≤ c.loop-i.i = omega (arith, c.loop-i-test.false, counts, c.requires.1.completed_at.unified_by.unified.may_be_used.have_marks, ap length c.as_slice-marks.ensures.value) in
    subst (λ ms. AreFresh (among_at a) (assigning c.args.whole.now.all) a.candidate.now.opened.fresh ms c.loop-i.fresh) c.as_slice-marks.ensures.value
    (fresh_all (among_at a) (assigning c.args.whole.now.all) goals marks c.loop-i.i a.candidate.now.opened.fresh c.loop-i.fresh c.loop-i-test.false marked c.as_slice-goals.ensures c.loop-i.invariant)
