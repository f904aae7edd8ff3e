use Rattle.taken_alternatives.proofs.normal_forms_are_reached.Goals as goal
use Rattle.taken_alternatives.proofs.Laws

pub returns : goal.returns
returns c = Laws.normal_forms_are_reached
