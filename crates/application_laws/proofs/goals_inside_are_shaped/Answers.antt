use Rattle.application_laws.proofs.goals_inside_are_shaped.Goals as goal
use Rattle.application_laws.proofs.Inside

pub returns : goal.returns
returns c = Inside.goals_inside_are_shaped
