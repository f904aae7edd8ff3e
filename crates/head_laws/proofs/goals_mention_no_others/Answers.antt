use Rattle.head_laws.proofs.goals_mention_no_others.Goals as goal
use Rattle.head_laws.proofs.GoalListLaws

pub returns : goal.returns
returns c = GoalListLaws.goals_mention_no_others
