use Rattle.taken_alternatives.proofs.alternatives_are_reached.Goals as goal
use Rattle.taken_alternatives.proofs.Laws

pub returns : goal.returns
returns c = Laws.alternatives_are_reached
