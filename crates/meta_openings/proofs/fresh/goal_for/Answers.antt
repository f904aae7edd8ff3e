use Rattle.meta_openings.proofs.FreshGoals.{goal_is}
use Rattle.meta_openings.proofs.fresh.goal_for.Goals as goal

pub returns : goal.returns
returns c = goal_is c.args.number c.args.setting.now.entries.now c.args.inside.binders c.in_ok-ctx.ctx c.args.inside.family c.args.inside.args c.in_ok-ctx.ensures
