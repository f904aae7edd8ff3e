use Rattle.lf_functions.proofs.instances_are_the_one_result.Goals as goal
use Rattle.lf_functions.proofs.Results

pub returns : goal.returns
returns c = Results.instances_are_the_one_result
