use Rattle.unification.proofs.shaped_problems_have_one_end.Goals as goal
use Rattle.unification.proofs.Laws

pub returns : goal.returns
returns c = Laws.shaped_problems_have_one_end
