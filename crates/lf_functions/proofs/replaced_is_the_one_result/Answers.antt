use Rattle.lf_functions.proofs.replaced_is_the_one_result.Goals as goal
use Rattle.lf_functions.proofs.Results

pub returns : goal.returns
returns c = Results.replaced_is_the_one_result
