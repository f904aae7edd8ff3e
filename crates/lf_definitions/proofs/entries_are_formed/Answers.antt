use Rattle.lf_definitions.proofs.entries_are_formed.Goals as goal
use Rattle.lf_definitions.proofs.TypingLaws

pub returns : goal.returns
returns c = TypingLaws.entries_are_formed
