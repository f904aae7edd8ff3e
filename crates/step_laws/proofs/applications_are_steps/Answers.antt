use Rattle.step_laws.proofs.applications_are_steps.Goals as goal
use Rattle.step_laws.proofs.Laws

pub returns : goal.returns
returns c = Laws.applications_are_steps
