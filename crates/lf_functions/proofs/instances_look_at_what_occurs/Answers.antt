use Rattle.lf_functions.proofs.instances_look_at_what_occurs.Goals as goal
use Rattle.lf_functions.proofs.InstanceLaws

pub returns : goal.returns
returns c = InstanceLaws.instances_look_at_what_occurs
