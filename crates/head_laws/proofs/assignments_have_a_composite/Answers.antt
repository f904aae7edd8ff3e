use Rattle.head_laws.proofs.assignments_have_a_composite.Goals as goal
use Rattle.head_laws.proofs.AssignmentLaws

pub returns : goal.returns
returns c = AssignmentLaws.assignments_have_a_composite
