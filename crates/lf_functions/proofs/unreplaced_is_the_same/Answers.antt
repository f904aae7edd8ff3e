use Rattle.lf_functions.proofs.unreplaced_is_the_same.Goals as goal
use Rattle.lf_functions.proofs.ReplacingLaws

pub returns : goal.returns
returns c = ReplacingLaws.unreplaced_is_the_same
