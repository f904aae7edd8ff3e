use Rattle.tree_runs.proofs.nodes_are_ranked.Goals as goal
use Rattle.tree_runs.proofs.Order.{better_or_worse, not_both_better, better_trans}

pub returns : goal.returns
returns g c = (better_or_worse, not_both_better, better_trans)
