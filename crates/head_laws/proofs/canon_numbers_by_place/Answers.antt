use Rattle.head_laws.proofs.canon_numbers_by_place.Goals as goal
use Rattle.head_laws.proofs.GoalListLaws

pub returns : goal.returns
returns c = GoalListLaws.canon_numbers_by_place
