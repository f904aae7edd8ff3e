use Rattle.lf_definitions.proofs.eta_forms_are_shaped.Goals as goal
use Rattle.lf_definitions.proofs.Laws

pub returns : goal.returns
returns c = Laws.eta_forms_are_shaped
