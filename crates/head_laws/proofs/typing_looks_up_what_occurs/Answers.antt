use Rattle.head_laws.proofs.typing_looks_up_what_occurs.Goals as goal
use Rattle.head_laws.proofs.LookupLaws

pub returns : goal.returns
returns c = LookupLaws.typing_looks_up_what_occurs
