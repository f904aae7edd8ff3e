use Rattle.head_laws.proofs.canon_is_undone.Goals as goal
use Rattle.head_laws.proofs.GoalListLaws

pub returns : goal.returns
returns c = GoalListLaws.canon_is_undone
