use Rattle.goal_lists.proofs.goals_leave_one_list.Goals as goal
use Rattle.goal_lists.proofs.Laws

pub returns : goal.returns
returns c = Laws.goals_leave_one_list
