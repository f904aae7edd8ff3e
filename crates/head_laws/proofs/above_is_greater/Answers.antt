use Rattle.head_laws.proofs.above_is_greater.Goals as goal
use Rattle.head_laws.proofs.GoalListLaws

pub returns : goal.returns
returns c = GoalListLaws.above_is_greater
