use Rattle.framed_alternatives.proofs.normal_forms_are_framed.Goals as goal
use Rattle.framed_alternatives.proofs.Laws

pub returns : goal.returns
returns c = Laws.normal_forms_are_framed
