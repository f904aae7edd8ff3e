use Rattle.unification.proofs.reading_is_expansion.Goals as goal
use Rattle.unification.proofs.Laws

pub returns : goal.returns
returns c = Laws.reading_is_expansion
