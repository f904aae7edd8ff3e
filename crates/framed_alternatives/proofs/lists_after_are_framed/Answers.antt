use Rattle.framed_alternatives.proofs.lists_after_are_framed.Goals as goal
use Rattle.framed_alternatives.proofs.Laws

pub returns : goal.returns
returns c = Laws.lists_after_are_framed
