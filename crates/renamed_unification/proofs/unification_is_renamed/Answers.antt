use Rattle.renamed_unification.proofs.unification_is_renamed.Goals as goal
use Rattle.renamed_unification.proofs.Laws

pub returns : goal.returns
returns c = Laws.unification_is_renamed
