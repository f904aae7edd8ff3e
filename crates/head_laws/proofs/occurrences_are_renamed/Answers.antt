use Rattle.head_laws.proofs.occurrences_are_renamed.Goals as goal
use Rattle.head_laws.proofs.OccurrenceLaws

pub returns : goal.returns
returns c = OccurrenceLaws.occurrences_are_renamed
