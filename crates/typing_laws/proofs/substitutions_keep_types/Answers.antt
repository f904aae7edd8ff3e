use Rattle.typing_laws.proofs.substitutions_keep_types.Goals as goal
use Rattle.typing_laws.proofs.Laws

pub returns : goal.returns
returns c = Laws.substitutions_keep_types
