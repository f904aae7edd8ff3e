use Rattle.std.proofs.Common.{◌≡◌, true}
use Rattle.tree_runs.proofs.runs_are_built_from_legal_events.Goals as goal
use Rattle.tree_runs.proofs.Journals

pub returns : goal.returns
returns g c = λ branches budget root test none more journal run. Journals.on_runs branches budget root (λ events. test events ≡ true) more none journal run
