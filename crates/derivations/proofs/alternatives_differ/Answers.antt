use Rattle.derivations.proofs.alternatives_differ.Goals as goal
use Rattle.derivations.proofs.LastSteps

pub returns : goal.returns
returns c = LastSteps.alternatives_differ
