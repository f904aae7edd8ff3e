use Rattle.applications.proofs.applications_are_renamed.Goals as goal
use Rattle.applications.proofs.RenamedApplications

pub returns : goal.returns
returns c = RenamedApplications.applications_are_renamed
