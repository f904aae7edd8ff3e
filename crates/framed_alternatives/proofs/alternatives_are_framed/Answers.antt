use Rattle.framed_alternatives.proofs.alternatives_are_framed.Goals as goal
use Rattle.framed_alternatives.proofs.Laws

pub returns : goal.returns
returns c = Laws.alternatives_are_framed
