use Rattle.head_laws.proofs.renumbered_goals_stay_closed.Goals as goal
use Rattle.head_laws.proofs.GoalListLaws

pub returns : goal.returns
returns c = GoalListLaws.renumbered_goals_stay_closed
