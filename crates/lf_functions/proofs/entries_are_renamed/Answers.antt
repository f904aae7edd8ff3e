use Rattle.lf_functions.proofs.entries_are_renamed.Goals as goal
use Rattle.lf_functions.proofs.EndingLaws

pub returns : goal.returns
returns c = EndingLaws.entries_are_renamed
