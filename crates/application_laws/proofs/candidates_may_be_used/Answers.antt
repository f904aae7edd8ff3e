use Rattle.application_laws.proofs.candidates_may_be_used.Goals as goal
use Rattle.application_laws.proofs.Laws

pub returns : goal.returns
returns c = Laws.candidates_may_be_used
