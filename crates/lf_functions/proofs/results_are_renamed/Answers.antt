use Rattle.lf_functions.proofs.results_are_renamed.Goals as goal
use Rattle.lf_functions.proofs.RenamedResults

pub returns : goal.returns
returns c = RenamedResults.results_are_renamed
