use Rattle.lf_terms.specs.Targets.{goal_of}
use Rattle.meta_goals.specs.Instantiates.{GoalIsShaped}
use Rattle.goals_tests.specs.Settings.{scope_of, kinds_of}
use Rattle.goals_tests.proofs.PutParts.{puts}
use Rattle.goals_tests.proofs.instances.goal_instance.Goals as goal

pub instantiate_goal-requires : goal.instantiate_goal-requires
instantiate_goal-requires c =
    puts (scope_of c.args.setting.now c.args.variables.now) c.args.assign.now (GoalIsShaped (goal_of c.in_ok-goal.goal)) c.requires (kinds_of c.args.setting.now, c.in_ok-fits.ensures c.if-not-fits.false)
