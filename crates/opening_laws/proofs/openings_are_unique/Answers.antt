use Rattle.opening_laws.proofs.openings_are_unique.Goals as goal
use Rattle.opening_laws.proofs.Uniqueness

pub returns : goal.returns
returns c = Uniqueness.openings_are_unique
