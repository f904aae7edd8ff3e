use Rattle.application_laws.proofs.applications_are_framed.Goals as goal
use Rattle.application_laws.proofs.Framed

pub returns : goal.returns
returns c = Framed.applications_are_framed
