use Rattle.opening_laws.proofs.openings_are_typed.Goals as goal
use Rattle.opening_laws.proofs.Typed

pub returns : goal.returns
returns c = Typed.openings_are_typed
