use Rattle.unifiers.proofs.refused_equations_have_no_solution.Goals as goal
use Rattle.unifiers.proofs.Laws

pub returns : goal.returns
returns c = Laws.refused_equations_have_no_solution
