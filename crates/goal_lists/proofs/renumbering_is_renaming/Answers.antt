use Rattle.goal_lists.proofs.renumbering_is_renaming.Goals as goal
use Rattle.goal_lists.proofs.Laws

pub returns : goal.returns
returns c = Laws.renumbering_is_renaming
