use Rattle.lf_functions.proofs.replaced_looks_at_what_occurs.Goals as goal
use Rattle.lf_functions.proofs.ReplacingLaws

pub returns : goal.returns
returns c = ReplacingLaws.replaced_looks_at_what_occurs
