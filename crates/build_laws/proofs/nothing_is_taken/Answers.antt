use Rattle.build_laws.proofs.nothing_is_taken.Goals as goal
use Rattle.build_laws.proofs.Laws

pub returns : goal.returns
returns c = Laws.nothing_is_taken
