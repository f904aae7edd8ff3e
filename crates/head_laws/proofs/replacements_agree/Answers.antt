use Rattle.head_laws.proofs.replacements_agree.Goals as goal
use Rattle.head_laws.proofs.OccurrenceLaws

pub returns : goal.returns
returns c = OccurrenceLaws.replacements_agree
