use Rattle.head_laws.proofs.assignments_compose.Goals as goal
use Rattle.head_laws.proofs.AssignmentLaws

pub returns : goal.returns
returns c = AssignmentLaws.assignments_compose
