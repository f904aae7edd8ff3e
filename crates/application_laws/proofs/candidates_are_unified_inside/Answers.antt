use Rattle.application_laws.proofs.candidates_are_unified_inside.Goals as goal
use Rattle.application_laws.proofs.Inside

pub returns : goal.returns
returns c = Inside.candidates_are_unified_inside
