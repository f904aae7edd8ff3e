use Rattle.lf_definitions.proofs.own_variables_change_nothing.Goals as goal
use Rattle.lf_definitions.proofs.Laws

pub returns : goal.returns
returns c = Laws.own_variables_change_nothing
