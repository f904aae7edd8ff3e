use Rattle.tree_runs.proofs.held_nodes_are_claimed.Goals as goal
use Rattle.tree_runs.proofs.Claims.{held_is_claimed}

pub returns : goal.returns
returns g c = λ branches root journal seat node h. held_is_claimed branches root journal seat node h
