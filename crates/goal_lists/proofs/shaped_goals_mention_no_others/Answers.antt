use Rattle.goal_lists.proofs.shaped_goals_mention_no_others.Goals as goal
use Rattle.goal_lists.proofs.Laws

pub returns : goal.returns
returns c = Laws.shaped_goals_mention_no_others
