use Rattle.lf_definitions.proofs.images_are_by_number.Goals as goal
use Rattle.lf_definitions.proofs.Laws

pub returns : goal.returns
returns c = Laws.images_are_by_number
