use Rattle.unifiers.proofs.instances_follow.Goals as goal
use Rattle.unifiers.proofs.Laws

pub returns : goal.returns
returns c = Laws.instances_follow
