use Rattle.lf_functions.proofs.instances_have_their_types.Goals as goal
use Rattle.lf_functions.proofs.TypedInstances

pub returns : goal.returns
returns c = TypedInstances.instances_have_their_types
