use Rattle.head_laws.proofs.renamings_agree.Goals as goal
use Rattle.head_laws.proofs.OccurrenceLaws

pub returns : goal.returns
returns c = OccurrenceLaws.renamings_agree
