use Rattle.head_laws.proofs.signatures_mention_no_metavariable.Goals as goal
use Rattle.head_laws.proofs.RenamedGoalLaws

pub returns : goal.returns
returns c = RenamedGoalLaws.signatures_mention_no_metavariable
