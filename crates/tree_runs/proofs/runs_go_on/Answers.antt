use Rattle.tree_runs.specs.States.{start}
use Rattle.tree_runs.proofs.runs_go_on.Goals as goal
use Rattle.tree_runs.proofs.Journals

pub returns : goal.returns
returns g c = λ branches budget root journal event. Journals.is_run_from-append branches budget (start root) journal event
