use Rattle.goal_lists.proofs.renamed_goals_are_shaped.Goals as goal
use Rattle.goal_lists.proofs.Laws

pub returns : goal.returns
returns c = Laws.renamed_goals_are_shaped
