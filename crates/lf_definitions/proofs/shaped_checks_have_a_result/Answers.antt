use Rattle.lf_definitions.proofs.shaped_checks_have_a_result.Goals as goal
use Rattle.lf_definitions.proofs.TypingLaws

pub returns : goal.returns
returns c = TypingLaws.shaped_checks_have_a_result
