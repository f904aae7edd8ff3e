use Rattle.lf_functions.proofs.has_type_looks_at_what_occurs.Goals as goal
use Rattle.lf_functions.proofs.CheckingLaws

pub returns : goal.returns
returns c = CheckingLaws.has_type_looks_at_what_occurs
