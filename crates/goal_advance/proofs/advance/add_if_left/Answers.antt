use Rattle.std.proofs.Common.{◌++◌, sym, ap, ◌∙◌}
use Rattle.lf_terms.specs.Targets.{goal_of}
use Rattle.meta_goals.specs.Bindings.{assigning}
use Rattle.meta_goals.specs.Entries.{binding_of}
use Rattle.meta_goals.proofs.ChangedTerms.{put_by}
use Rattle.meta_goals.proofs.LeftGoals.{is_assigned, is_unassigned}
use Rattle.build_shared.proofs.FreshParts.{left_one}
use Rattle.goal_advance.proofs.GoalsAfter.{none_left}
use Rattle.goal_advance.proofs.advance.add_if_left.Goals as goal

pub instantiate_goal-requires : goal.instantiate_goal-requires
instantiate_goal-requires c = c.requires.1.instantiates

pub returns-in-Some : goal.returns-in-Some
returns-in-Some c =
    let b = binding_of (c.args.goal.now.id, c.in-Some.field-0.now) in
    λ all can. none_left all (assigning c.args.assign.now) (goal_of c.args.goal.now) (put_by b) c.args.left.now (is_assigned c.args.assign.now c.args.goal.now.id b (sym c.in-Some.ensures))

pub returns-in_ok-push-in-None : goal.returns-in_ok-push-in-None
returns-in_ok-push-in-None c =
    let g = goal_of c.args.goal.now in
    let next = goal_of c.in_ok-next-in-None.next in
    λ all can.
    c.in_ok-push-in-None.ensures.ok
    ∙ ap (λ l. c.args.left.now ++ l) (left_one all (assigning c.args.assign.now) g next (is_unassigned c.args.assign.now g.id (sym c.in-None.ensures)) (can.only next c.in_ok-next-in-None.ensures.result))
