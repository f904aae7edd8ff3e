use Rattle.tree_runs.proofs.priorities_are_bounded.Goals as goal
use Rattle.tree_runs.proofs.Claims.{priorities_bounded}

pub returns : goal.returns
returns g c = λ branches small root journal node content e. priorities_bounded branches small root journal node content e
