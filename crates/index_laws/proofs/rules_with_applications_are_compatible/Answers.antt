use Rattle.index_laws.proofs.rules_with_applications_are_compatible.Goals as goal
use Rattle.index_laws.proofs.Compatible

pub returns : goal.returns
returns c = Compatible.rules_with_applications_are_compatible
