use Rattle.renamed_unification.proofs.renamed_equations_end_alike.Goals as goal
use Rattle.renamed_unification.proofs.Laws

pub returns : goal.returns
returns c = Laws.renamed_equations_end_alike
