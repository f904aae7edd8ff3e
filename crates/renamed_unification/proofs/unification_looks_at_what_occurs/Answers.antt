use Rattle.renamed_unification.proofs.unification_looks_at_what_occurs.Goals as goal
use Rattle.renamed_unification.proofs.Laws

pub returns : goal.returns
returns c = Laws.unification_looks_at_what_occurs
