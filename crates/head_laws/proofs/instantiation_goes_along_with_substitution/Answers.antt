use Rattle.head_laws.proofs.instantiation_goes_along_with_substitution.Goals as goal
use Rattle.head_laws.proofs.AssignmentLaws

pub returns : goal.returns
returns c = AssignmentLaws.instantiation_goes_along_with_substitution
