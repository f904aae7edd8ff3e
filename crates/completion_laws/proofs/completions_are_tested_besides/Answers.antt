use Rattle.completion_laws.proofs.completions_are_tested_besides.Goals as goal
use Rattle.completion_laws.proofs.Besides

pub returns : goal.returns
returns c = Besides.completions_are_tested_besides
