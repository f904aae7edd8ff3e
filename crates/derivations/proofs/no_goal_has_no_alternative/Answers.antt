use Rattle.derivations.proofs.no_goal_has_no_alternative.Goals as goal
use Rattle.derivations.proofs.NoGoals

pub returns : goal.returns
returns c = NoGoals.no_goal_has_no_alternative
