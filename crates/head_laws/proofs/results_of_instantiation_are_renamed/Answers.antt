use Rattle.head_laws.proofs.results_of_instantiation_are_renamed.Goals as goal
use Rattle.head_laws.proofs.MetavariableLaws

pub returns : goal.returns
returns c = MetavariableLaws.results_of_instantiation_are_renamed
