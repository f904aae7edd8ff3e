use Rattle.lf_functions.proofs.equality_is_decided.Goals as goal
use Rattle.lf_functions.proofs.CheckingLaws

pub returns : goal.returns
returns c = CheckingLaws.equality_is_decided
