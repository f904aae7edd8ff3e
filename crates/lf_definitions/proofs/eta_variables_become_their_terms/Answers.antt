use Rattle.lf_definitions.proofs.eta_variables_become_their_terms.Goals as goal
use Rattle.lf_definitions.proofs.Laws

pub returns : goal.returns
returns c = Laws.eta_variables_become_their_terms
