use Rattle.head_laws.proofs.goals_may_change.Goals as goal
use Rattle.head_laws.proofs.LookupLaws

pub returns : goal.returns
returns c = LookupLaws.goals_may_change
