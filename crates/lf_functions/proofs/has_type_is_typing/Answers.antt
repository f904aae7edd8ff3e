use Rattle.lf_functions.proofs.has_type_is_typing.Goals as goal
use Rattle.lf_functions.proofs.CheckingLaws

pub returns : goal.returns
returns c = CheckingLaws.has_type_is_typing
