use Rattle.lf_functions.proofs.results_are_the_one_result.Goals as goal
use Rattle.lf_functions.proofs.Results

pub returns : goal.returns
returns c = Results.results_are_the_one_result
