use Rattle.clusters.proofs.classes_cover.Goals as goal
use Rattle.clusters.proofs.Laws

pub returns : goal.returns
returns c = Laws.classes_cover
