use Rattle.head_laws.proofs.instantiations_are_renamed.Goals as goal
use Rattle.head_laws.proofs.MetavariableLaws

pub returns : goal.returns
returns c = MetavariableLaws.instantiations_are_renamed
