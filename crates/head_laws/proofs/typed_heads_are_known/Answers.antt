use Rattle.head_laws.proofs.typed_heads_are_known.Goals as goal
use Rattle.head_laws.proofs.LookupLaws

pub returns : goal.returns
returns c = LookupLaws.typed_heads_are_known
