use Rattle.goal_lists.proofs.new_goals_may_stand_beside.Goals as goal
use Rattle.goal_lists.proofs.Laws

pub returns : goal.returns
returns c = Laws.new_goals_may_stand_beside
