use Rattle.lf_functions.proofs.instances_mention_what_is_put.Goals as goal
use Rattle.lf_functions.proofs.MentionLaws

pub returns : goal.returns
returns c = MentionLaws.instances_mention_what_is_put
