use Rattle.typing_laws.proofs.shaped_typings_are_closed.Goals as goal
use Rattle.typing_laws.proofs.ClosedTypes

pub returns : goal.returns
returns c = ClosedTypes.shaped_typings_are_closed
