use Rattle.index_laws.proofs.rules_with_applications_are_found.Goals as goal
use Rattle.index_laws.proofs.Found

pub returns : goal.returns
returns c = Found.rules_with_applications_are_found
