use Rattle.lf_functions.proofs.unassigned_instances_are_the_same.Goals as goal
use Rattle.lf_functions.proofs.InstanceLaws

pub returns : goal.returns
returns c = InstanceLaws.unassigned_instances_are_the_same
