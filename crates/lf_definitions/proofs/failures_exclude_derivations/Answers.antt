use Rattle.lf_definitions.proofs.failures_exclude_derivations.Goals as goal
use Rattle.lf_definitions.proofs.TypingLaws

pub returns : goal.returns
returns c = TypingLaws.failures_exclude_derivations
