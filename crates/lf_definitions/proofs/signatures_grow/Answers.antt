use Rattle.lf_definitions.proofs.signatures_grow.Goals as goal
use Rattle.lf_definitions.proofs.TypingLaws

pub returns : goal.returns
returns c = TypingLaws.signatures_grow
