use Rattle.opening_laws.proofs.fresh_goals_are_numbered.Goals as goal
use Rattle.opening_laws.proofs.Numbers

pub returns : goal.returns
returns c = Numbers.fresh_goals_are_numbered
