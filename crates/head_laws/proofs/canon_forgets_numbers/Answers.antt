use Rattle.head_laws.proofs.canon_forgets_numbers.Goals as goal
use Rattle.head_laws.proofs.GoalListLaws

pub returns : goal.returns
returns c = GoalListLaws.canon_forgets_numbers
