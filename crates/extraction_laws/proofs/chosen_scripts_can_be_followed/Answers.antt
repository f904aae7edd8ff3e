use Rattle.extraction_laws.proofs.chosen_scripts_can_be_followed.Goals as goal
use Rattle.extraction_laws.proofs.Laws

pub returns : goal.returns
returns c = Laws.chosen_scripts_can_be_followed
