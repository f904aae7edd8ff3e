use Rattle.typing_laws.proofs.goals_that_stay_are_kept.Goals as goal
use Rattle.typing_laws.proofs.GoalLists

pub returns : goal.returns
returns c = GoalLists.goals_that_stay_are_kept
