use Rattle.lf_functions.proofs.unifiers_look_at_what_occurs.Goals as goal
use Rattle.lf_functions.proofs.EndingLaws

pub returns : goal.returns
returns c = EndingLaws.unifiers_look_at_what_occurs
