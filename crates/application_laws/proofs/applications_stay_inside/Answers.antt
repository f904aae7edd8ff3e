use Rattle.application_laws.proofs.applications_stay_inside.Goals as goal
use Rattle.application_laws.proofs.Framed

pub returns : goal.returns
returns c = Framed.applications_stay_inside
