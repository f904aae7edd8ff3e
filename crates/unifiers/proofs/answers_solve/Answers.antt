use Rattle.unifiers.proofs.answers_solve.Goals as goal
use Rattle.unifiers.proofs.Laws

pub returns : goal.returns
returns c = Laws.answers_solve
