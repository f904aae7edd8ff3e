use Rattle.applications.proofs.openings_are_functions.Goals as goal
use Rattle.applications.proofs.OpenedTypes

pub returns : goal.returns
returns c = OpenedTypes.openings_are_functions
