use Rattle.lf_functions.proofs.instances_go_part_by_part.Goals as goal
use Rattle.lf_functions.proofs.InstanceLaws

pub returns : goal.returns
returns c = InstanceLaws.instances_go_part_by_part
