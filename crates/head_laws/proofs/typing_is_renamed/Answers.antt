use Rattle.head_laws.proofs.typing_is_renamed.Goals as goal
use Rattle.head_laws.proofs.MetavariableLaws

pub returns : goal.returns
returns c = MetavariableLaws.typing_is_renamed
