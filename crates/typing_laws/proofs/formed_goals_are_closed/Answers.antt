use Rattle.typing_laws.proofs.formed_goals_are_closed.Goals as goal
use Rattle.typing_laws.proofs.ClosedTypes

pub returns : goal.returns
returns c = ClosedTypes.formed_goals_are_closed
