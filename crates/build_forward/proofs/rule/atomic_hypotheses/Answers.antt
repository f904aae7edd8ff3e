use Rattle.std.proofs.Common.{[]}
use Rattle.lf_definitions.specs.ShapedGoals.{scope_in, kind_shapes_in}
use Rattle.lf_definitions.specs.GoalLists.{all_goals}
use Rattle.lf_terms.specs.Targets.{goal_of}
use Rattle.meta_goals.specs.GoalsOf.{goals_of}
use Rattle.build_shared.proofs.WholeUses.{first_is_shaped}
use Rattle.build_forward.proofs.rule.atomic_hypotheses.Goals as goal

pub hypotheses-requires : goal.hypotheses-requires
hypotheses-requires c =
    let u = c.args.usage.now in
    let goals = goals_of u.goals.now in
    (kind_shapes_in u.sig.now, scope_in u.sig.now (all_goals goals) [], (first_is_shaped u.sig.now goals u.first (goal_of u.goal.now) c.requires.goals).0)
