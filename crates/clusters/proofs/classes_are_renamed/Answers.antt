use Rattle.clusters.proofs.classes_are_renamed.Goals as goal
use Rattle.clusters.proofs.Renamed

pub returns : goal.returns
returns c = Renamed.classes_are_renamed
