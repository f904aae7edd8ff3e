use Rattle.clusters.proofs.classes_are_apart.Goals as goal
use Rattle.clusters.proofs.Laws

pub returns : goal.returns
returns c = Laws.classes_are_apart
