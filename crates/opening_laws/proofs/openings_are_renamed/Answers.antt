use Rattle.opening_laws.proofs.openings_are_renamed.Goals as goal
use Rattle.opening_laws.proofs.Renamed

pub returns : goal.returns
returns c = Renamed.openings_are_renamed
