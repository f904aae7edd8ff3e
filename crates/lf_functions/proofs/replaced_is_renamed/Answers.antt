use Rattle.lf_functions.proofs.replaced_is_renamed.Goals as goal
use Rattle.lf_functions.proofs.ReplacingLaws

pub returns : goal.returns
returns c = ReplacingLaws.replaced_is_renamed
