use Rattle.head_laws.proofs.goal_types_are_renamed.Goals as goal
use Rattle.head_laws.proofs.MetavariableLaws

pub returns : goal.returns
returns c = MetavariableLaws.goal_types_are_renamed
