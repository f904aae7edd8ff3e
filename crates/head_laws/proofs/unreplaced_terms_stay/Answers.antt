use Rattle.head_laws.proofs.unreplaced_terms_stay.Goals as goal
use Rattle.head_laws.proofs.OccurrenceLaws

pub returns : goal.returns
returns c = OccurrenceLaws.unreplaced_terms_stay
