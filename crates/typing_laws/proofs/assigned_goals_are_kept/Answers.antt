use Rattle.typing_laws.proofs.assigned_goals_are_kept.Goals as goal
use Rattle.typing_laws.proofs.GoalLists

pub returns : goal.returns
returns c = GoalLists.assigned_goals_are_kept
