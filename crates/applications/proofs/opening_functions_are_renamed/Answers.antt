use Rattle.applications.proofs.opening_functions_are_renamed.Goals as goal
use Rattle.applications.proofs.RenamedOpenings

pub returns : goal.returns
returns c = RenamedOpenings.opening_functions_are_renamed
