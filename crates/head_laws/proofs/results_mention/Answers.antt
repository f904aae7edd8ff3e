use Rattle.head_laws.proofs.results_mention.Goals as goal
use Rattle.head_laws.proofs.OccurrenceLaws

pub returns : goal.returns
returns c = OccurrenceLaws.results_mention
