use Rattle.carried_alternatives.proofs.alternatives_are_carried_over.Goals as goal
use Rattle.carried_alternatives.proofs.CarriedOver

pub returns : goal.returns
returns c = CarriedOver.alternatives_are_carried_over
