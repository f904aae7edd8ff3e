use Rattle.clusters.proofs.classes_split.Goals as goal
use Rattle.clusters.proofs.Connected

pub returns : goal.returns
returns c = Connected.classes_split
