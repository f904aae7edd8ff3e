use Rattle.head_laws.proofs.up_to_is_by_place.Goals as goal
use Rattle.head_laws.proofs.GoalListLaws

pub returns : goal.returns
returns c = GoalListLaws.up_to_is_by_place
