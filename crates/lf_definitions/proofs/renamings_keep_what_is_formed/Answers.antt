use Rattle.lf_definitions.proofs.renamings_keep_what_is_formed.Goals as goal
use Rattle.lf_definitions.proofs.TypingLaws

pub returns : goal.returns
returns c = TypingLaws.renamings_keep_what_is_formed
