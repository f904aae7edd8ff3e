use Rattle.typing_laws.proofs.goals_are_their_types.Goals as goal
use Rattle.typing_laws.proofs.GoalLists

pub returns : goal.returns
returns c = GoalLists.goals_are_their_types
