use Rattle.typing_laws.proofs.instantiations_have_results.Goals as goal
use Rattle.typing_laws.proofs.Instantiation

pub returns : goal.returns
returns c = Instantiation.instantiations_have_results
