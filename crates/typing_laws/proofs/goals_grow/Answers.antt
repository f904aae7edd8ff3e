use Rattle.typing_laws.proofs.goals_grow.Goals as goal
use Rattle.typing_laws.proofs.GoalLists

pub returns : goal.returns
returns c = GoalLists.goals_grow
