use Rattle.lf_definitions.proofs.shaped_substitutions_have_one_result.Goals as goal
use Rattle.lf_definitions.proofs.Laws

pub returns : goal.returns
returns c = Laws.shaped_substitutions_have_one_result
