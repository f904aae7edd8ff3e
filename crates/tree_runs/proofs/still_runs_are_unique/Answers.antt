use Rattle.tree_runs.specs.States.{start}
use Rattle.tree_runs.proofs.still_runs_are_unique.Goals as goal
use Rattle.tree_runs.proofs.StillRuns.{still_is_one}

pub returns : goal.returns
returns g c = λ branches budget root one two a b. still_is_one branches budget (start root) one two a b
