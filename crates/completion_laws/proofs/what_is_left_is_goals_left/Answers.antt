use Rattle.completion_laws.proofs.what_is_left_is_goals_left.Goals as goal
use Rattle.completion_laws.proofs.LeftGoals

pub returns : goal.returns
returns c = LeftGoals.what_is_left_is_goals_left
