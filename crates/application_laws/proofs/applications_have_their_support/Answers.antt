use Rattle.application_laws.proofs.applications_have_their_support.Goals as goal
use Rattle.application_laws.proofs.Support

pub returns : goal.returns
returns c = Support.applications_have_their_support
