use Rattle.head_laws.proofs.failures_are_renamed.Goals as goal
use Rattle.head_laws.proofs.MetavariableLaws

pub returns : goal.returns
returns c = MetavariableLaws.failures_are_renamed
