use Rattle.head_laws.proofs.metavariables_occur_renamed.Goals as goal
use Rattle.head_laws.proofs.MetavariableLaws

pub returns : goal.returns
returns c = MetavariableLaws.metavariables_occur_renamed
