use Rattle.lf_definitions.proofs.formed_contexts_are_shaped.Goals as goal
use Rattle.lf_definitions.proofs.TypingLaws

pub returns : goal.returns
returns c = TypingLaws.formed_contexts_are_shaped
