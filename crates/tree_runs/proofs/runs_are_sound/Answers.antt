use Rattle.tree_runs.proofs.runs_are_sound.Goals as goal
use Rattle.tree_runs.proofs.Soundness

pub returns : goal.returns
returns g c = λ branches budget root journal run. Soundness.runs_are_sound branches root budget journal run
