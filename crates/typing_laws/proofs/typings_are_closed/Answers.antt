use Rattle.typing_laws.proofs.typings_are_closed.Goals as goal
use Rattle.typing_laws.proofs.ClosedTypes

pub returns : goal.returns
returns c = ClosedTypes.typings_are_closed
