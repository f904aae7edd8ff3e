use Rattle.tree_runs.proofs.best_nodes_are_unique.Goals as goal
use Rattle.tree_runs.proofs.Order.{best_is_one}

pub returns : goal.returns
returns g c = best_is_one
