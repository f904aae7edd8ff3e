use Rattle.unification.proofs.transitions_are_unique.Goals as goal
use Rattle.unification.proofs.Laws

pub returns : goal.returns
returns c = Laws.transitions_are_unique
