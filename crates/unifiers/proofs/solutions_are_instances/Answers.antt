use Rattle.unifiers.proofs.solutions_are_instances.Goals as goal
use Rattle.unifiers.proofs.Laws

pub returns : goal.returns
returns c = Laws.solutions_are_instances
