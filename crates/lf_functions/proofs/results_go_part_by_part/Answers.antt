use Rattle.lf_functions.proofs.results_go_part_by_part.Goals as goal
use Rattle.lf_functions.proofs.InstanceLaws

pub returns : goal.returns
returns c = InstanceLaws.results_go_part_by_part
