use Rattle.std.proofs.Common.{◌++◌, ap, ◌∙◌}
use Rattle.lf_terms.specs.Targets.{goal_of}
use Rattle.goal_lists.proofs.Leaving.{Leaves-append}
use Rattle.meta_goals.specs.Bindings.{assigning}
use Rattle.build_shared.specs.Attempts.{goals_at, goal_at, candidate_at, among_at}
use Rattle.build_shared.specs.Completed.{seen_completed}
use Rattle.build_shared.proofs.WholeBindings.{goals_leave, besides_leaves, what_is_left}
use Rattle.build_shared.proofs.FreshParts.{remains_made}
use Rattle.build_shared.proofs.remaining.what_remains.Goals as goal

pub apply_assign-requires : goal.apply_assign-requires
apply_assign-requires c =
    let a = c.args.attempt.now in
    let w = c.requires.1 in
    goals_leave a.sig.now (goals_at a) a.first (goal_at a) (candidate_at a) c.requires.0 (seen_completed c.args.done.now) w.completed_at c.args.whole.now.all c.args.whole.now.others w.others_are w.all_are

pub instantiate_goal-requires : goal.instantiate_goal-requires
instantiate_goal-requires c =
    let a = c.args.attempt.now in
    let w = c.requires.1 in
    (besides_leaves a.sig.now (goals_at a) a.first (goal_at a) (candidate_at a) c.requires.0 (seen_completed c.args.done.now) w.completed_at c.args.whole.now.all c.args.whole.now.others w.others_are w.all_are).instantiates

pub returns-clause-list : goal.returns-clause-list
returns-clause-list c =
    let a = c.args.attempt.now in
    let w = c.requires.1 in
    let whole = c.args.whole.now in
    let left = c.in_ok-left.left in
    remains_made (among_at a) (assigning whole.all) (goals_at a) (candidate_at a).opened.fresh c.args.done.now.more left.proofs left.witnesses c.in_ok-fresh.fresh.all _ _ _ _ (goal_of c.in_ok-besides.besides) _
    (what_is_left a.sig.now (goals_at a) a.first (goal_at a) (candidate_at a) c.requires.0 (seen_completed c.args.done.now) w.completed_at whole.all whole.others w.others_are w.all_are (left.proofs ++ left.witnesses)
    (Leaves-append c.in_ok-left.ensures.result.of_proofs c.in_ok-left.ensures.result.of_witnesses))
    c.in_ok-fresh.ensures.all_are c.in_ok-add_goals.ensures c.in_ok-add_goals-2.ensures c.in_ok-add_goals-3.ensures c.in_ok-push.ensures.ok
    ((besides_leaves a.sig.now (goals_at a) a.first (goal_at a) (candidate_at a) c.requires.0 (seen_completed c.args.done.now) w.completed_at whole.all whole.others w.others_are w.all_are).only (goal_of c.in_ok-besides.besides)
    c.in_ok-besides.ensures.result)

pub returns-clause-proofs : goal.returns-clause-proofs
returns-clause-proofs c = c.in_ok-add_goals-4.ensures ∙ ap (λ l. l ++ c.args.done.now.more) c.in_ok-fresh.ensures.proofs_are

pub returns-clause-witnesses : goal.returns-clause-witnesses
returns-clause-witnesses c = c.in_ok-fresh.ensures.witnesses_are
