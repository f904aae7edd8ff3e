use Rattle.typed_steps.proofs.applications_keep_types.Goals as goal
use Rattle.typed_steps.proofs.Applications

pub returns : goal.returns
returns c = Applications.applications_keep_types
