use Rattle.std.proofs.Common.{[], ◌∷◌, sym}
use Rattle.std.proofs.lemmas.List.{append-nil}
use Rattle.std.proofs.lemmas.Result.{on_ok_weaker}
use Rattle.lf_terms.specs.Targets.{goal_of}
use Rattle.goal_lists.specs.Assigning.{leaves_none, goal_dropped, goal_stays}
use Rattle.meta_goals.specs.Entries.{binding_of}
use Rattle.meta_goals.proofs.ChangedTerms.{put_by}
use Rattle.meta_goals.proofs.LeftGoals.{is_assigned, is_unassigned}
use Rattle.meta_goals.proofs.apply_assign.leave.Goals as goal

pub returns-in-Some : goal.returns-in-Some
returns-in-Some c =
    let b = binding_of (c.args.goal.now.id, c.in-Some.field-0.now) in
    ([], goal_dropped (put_by b) (is_assigned c.args.sigma.now c.args.goal.now.id b (sym c.in-Some.ensures)) leaves_none, sym (append-nil c.args.left.now))

pub returns-in_ok-instantiate_goal-in-None : goal.returns-in_ok-instantiate_goal-in-None
returns-in_ok-instantiate_goal-in-None c =
    on_ok_weaker c.push.result
    (λ e. (
      goal_of c.in_ok-instantiate_goal-in-None.field-0 ∷ [],
      goal_stays (is_unassigned c.args.sigma.now c.args.goal.now.id (sym c.in-None.ensures)) c.in_ok-instantiate_goal-in-None.ensures.result leaves_none,
      e,
    ))
    c.push.ensures.ok
