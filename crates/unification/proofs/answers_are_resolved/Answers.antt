use Rattle.unification.proofs.answers_are_resolved.Goals as goal
use Rattle.unification.proofs.Laws

pub returns : goal.returns
returns c = Laws.answers_are_resolved
