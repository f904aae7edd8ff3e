use Rattle.tree_runs.specs.States.{start}
use Rattle.tree_runs.proofs.still_runs_are_settled_runs.Goals as goal
use Rattle.tree_runs.proofs.StillRuns.{still_is_run}

pub returns : goal.returns
returns g c = λ branches budget root journal h. still_is_run branches budget (start root) journal h
