use Rattle.tree_runs.specs.States.{start}
use Rattle.tree_runs.proofs.states_go_on.Goals as goal
use Rattle.tree_runs.proofs.Journals

pub returns : goal.returns
returns g c = λ branches root journal event. Journals.state_from-append branches (start root) journal event
