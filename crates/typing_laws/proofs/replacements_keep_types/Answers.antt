use Rattle.typing_laws.proofs.replacements_keep_types.Goals as goal
use Rattle.typing_laws.proofs.Laws

pub returns : goal.returns
returns c = Laws.replacements_keep_types
