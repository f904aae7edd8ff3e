use Rattle.lf_definitions.proofs.substitutions_are_simultaneous.Goals as goal
use Rattle.lf_definitions.proofs.Laws

pub returns : goal.returns
returns c = Laws.substitutions_are_simultaneous
