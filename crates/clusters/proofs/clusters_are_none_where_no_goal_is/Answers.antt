use Rattle.clusters.proofs.clusters_are_none_where_no_goal_is.Goals as goal
use Rattle.clusters.proofs.Laws

pub returns : goal.returns
returns c = Laws.clusters_are_none_where_no_goal_is
