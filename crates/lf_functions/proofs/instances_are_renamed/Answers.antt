use Rattle.lf_functions.proofs.instances_are_renamed.Goals as goal
use Rattle.lf_functions.proofs.RenamedResults

pub returns : goal.returns
returns c = RenamedResults.instances_are_renamed
