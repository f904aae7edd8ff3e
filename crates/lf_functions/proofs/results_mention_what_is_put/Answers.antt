use Rattle.lf_functions.proofs.results_mention_what_is_put.Goals as goal
use Rattle.lf_functions.proofs.MentionLaws

pub returns : goal.returns
returns c = MentionLaws.results_mention_what_is_put
