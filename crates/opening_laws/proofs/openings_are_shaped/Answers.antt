use Rattle.opening_laws.proofs.openings_are_shaped.Goals as goal
use Rattle.opening_laws.proofs.Laws

pub returns : goal.returns
returns c = Laws.openings_are_shaped
