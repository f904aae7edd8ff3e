use Rattle.unification.proofs.variables_are_tested.Goals as goal
use Rattle.unification.proofs.Laws

pub returns : goal.returns
returns c = Laws.variables_are_tested
