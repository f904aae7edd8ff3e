use Rattle.lf_definitions.proofs.first_failures_are_unique.Goals as goal
use Rattle.lf_definitions.proofs.TypingLaws

pub returns : goal.returns
returns c = TypingLaws.first_failures_are_unique
