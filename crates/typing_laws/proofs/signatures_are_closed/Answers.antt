use Rattle.typing_laws.proofs.signatures_are_closed.Goals as goal
use Rattle.typing_laws.proofs.ClosedTypes

pub returns : goal.returns
returns c = ClosedTypes.signatures_are_closed
