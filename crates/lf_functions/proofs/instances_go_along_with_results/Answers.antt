use Rattle.lf_functions.proofs.instances_go_along_with_results.Goals as goal
use Rattle.lf_functions.proofs.InstancesOfResults

pub returns : goal.returns
returns c = InstancesOfResults.instances_go_along_with_results
