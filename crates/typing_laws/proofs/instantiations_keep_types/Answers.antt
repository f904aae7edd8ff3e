use Rattle.typing_laws.proofs.instantiations_keep_types.Goals as goal
use Rattle.typing_laws.proofs.Instantiation

pub returns : goal.returns
returns c = Instantiation.instantiations_keep_types
