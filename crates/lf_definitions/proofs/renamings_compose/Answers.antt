use Rattle.lf_definitions.proofs.renamings_compose.Goals as goal
use Rattle.lf_definitions.proofs.Laws

pub returns : goal.returns
returns c = Laws.renamings_compose
