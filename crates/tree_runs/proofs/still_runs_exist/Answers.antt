use Rattle.tree_runs.proofs.still_runs_exist.Goals as goal
use Rattle.tree_runs.proofs.StillRunsExist.{still_run_exists}

pub returns : goal.returns
returns g c = λ branches budget root. still_run_exists branches root budget
