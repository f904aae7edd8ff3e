use Rattle.head_laws.proofs.occurrence_is_decided.Goals as goal
use Rattle.head_laws.proofs.OccurrenceLaws

pub returns : goal.returns
returns c = OccurrenceLaws.occurrence_is_decided
