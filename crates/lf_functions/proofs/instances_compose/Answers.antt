use Rattle.lf_functions.proofs.instances_compose.Goals as goal
use Rattle.lf_functions.proofs.Compositions

pub returns : goal.returns
returns c = Compositions.instances_compose
