use Rattle.lf_functions.proofs.instances_keep_shapes.Goals as goal
use Rattle.lf_functions.proofs.InstanceLaws

pub returns : goal.returns
returns c = InstanceLaws.instances_keep_shapes
