use Rattle.goal_lists.proofs.what_is_left_is_renamed.Goals as goal
use Rattle.goal_lists.proofs.Laws

pub returns : goal.returns
returns c = Laws.what_is_left_is_renamed
