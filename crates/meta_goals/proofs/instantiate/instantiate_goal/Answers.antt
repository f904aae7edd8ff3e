use Rattle.std.proofs.Common.{refl}
use Rattle.lf_terms.specs.Targets.{goal_of}
use Rattle.meta_goals.specs.Instantiates.{GoalIsShaped}
use Rattle.meta_goals.proofs.ChangedTypes.{instantiates_context, instantiates_target, goal_instantiated, goal_keeps_shape}
use Rattle.meta_goals.proofs.instantiate.instantiate_goal.Goals as goal

pub instantiate_context-requires : goal.instantiate_context-requires
instantiate_context-requires c = instantiates_context c.args.assign.now (goal_of c.args.goal.now) c.requires

pub instantiate_atom-requires : goal.instantiate_atom-requires
instantiate_atom-requires c = instantiates_target c.args.assign.now (goal_of c.args.goal.now) c.requires

pub returns-clause-result : goal.returns-clause-result
returns-clause-result c = goal_instantiated c.args.assign.now (GoalIsShaped (goal_of c.args.goal.now)) c.requires (goal_of c.args.goal.now) _ refl c.in_ok-ctx.ensures.result c.in_ok-target.ensures.result

pub returns-clause-shaped : goal.returns-clause-shaped
returns-clause-shaped c =
    let g = goal_of c.args.goal.now in
    goal_keeps_shape c.args.assign.now g _ (goal_instantiated c.args.assign.now (GoalIsShaped g) c.requires g _ refl c.in_ok-ctx.ensures.result c.in_ok-target.ensures.result)
