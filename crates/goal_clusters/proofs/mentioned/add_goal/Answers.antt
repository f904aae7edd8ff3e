use Rattle.std.proofs.lemmas.Result.{on_ok_weaker}
use Rattle.goal_clusters.proofs.Mentioning.{binders_and_args}
use Rattle.goal_clusters.proofs.mentioned.add_goal.Goals as goal

pub returns : goal.returns
returns c =
    let g = c.args.goal.now in
    on_ok_weaker c.add_terms.result
    (binders_and_args g.ctx g.target.family g.target.args c.args.numbers.now.items c.add_types.new.numbers.items c.add_terms.new.numbers.items c.in_ok-add_types.ensures) c.add_terms.ensures
