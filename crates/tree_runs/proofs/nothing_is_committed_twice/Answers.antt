use Rattle.tree_runs.proofs.nothing_is_committed_twice.Goals as goal
use Rattle.tree_runs.proofs.Soundness.{not_committed_twice}

pub returns : goal.returns
returns g c = λ branches budget root journal seat node counts run. not_committed_twice branches root budget journal seat node counts run
