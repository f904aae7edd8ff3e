use Rattle.typing_laws.proofs.instantiations_keep_what_is_formed.Goals as goal
use Rattle.typing_laws.proofs.Instantiation

pub returns : goal.returns
returns c = Instantiation.instantiations_keep_what_is_formed
