use Rattle.lf_functions.proofs.taken_goals_go_to_others.Goals as goal
use Rattle.lf_functions.proofs.TypedInstances

pub returns : goal.returns
returns c = TypedInstances.taken_goals_go_to_others
