use Rattle.head_laws.specs.Renumbering.{place_of_number}
use Rattle.meta_goals.proofs.Renumbered.{goal_renamed}
use Rattle.meta_goals.proofs.renumber.renumbered_goal.Goals as goal

pub returns : goal.returns
returns c =
    let g = c.args.goal.now in
    goal_renamed (place_of_number c.args.places.now) g.id g.target.family c.find.result g.ctx c.in_ok-ctx.ctx g.target.args c.in_ok-args.args c.find.ensures c.in_ok-ctx.ensures c.in_ok-args.ensures
