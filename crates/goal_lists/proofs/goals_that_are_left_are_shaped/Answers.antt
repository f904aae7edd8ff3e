use Rattle.goal_lists.proofs.goals_that_are_left_are_shaped.Goals as goal
use Rattle.goal_lists.proofs.Laws

pub returns : goal.returns
returns c = Laws.goals_that_are_left_are_shaped
