use Rattle.opening_laws.proofs.types_are_opened.Goals as goal
use Rattle.opening_laws.proofs.Laws

pub returns : goal.returns
returns c = Laws.types_are_opened
