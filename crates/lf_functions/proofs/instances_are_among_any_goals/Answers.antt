use Rattle.lf_functions.proofs.instances_are_among_any_goals.Goals as goal
use Rattle.lf_functions.proofs.MentionLaws

pub returns : goal.returns
returns c = MentionLaws.instances_are_among_any_goals
