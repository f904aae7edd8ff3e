use Rattle.tree_runs.proofs.best_nodes_are_tested.Goals as goal
use Rattle.tree_runs.proofs.Best.{is_best-from_Best, Best-from_is_best}

pub returns : goal.returns
returns g c = λ state node. (Best-from_is_best state node, is_best-from_Best state node)
