use Rattle.goal_lists.proofs.unassigned_goals_are_left.Goals as goal
use Rattle.goal_lists.proofs.Laws

pub returns : goal.returns
returns c = Laws.unassigned_goals_are_left
