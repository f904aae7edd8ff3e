use Rattle.program_verdicts.proofs.declarations_have_one_verdict.Goals as goal
use Rattle.program_verdicts.proofs.Verdicts

pub returns : goal.returns
returns c = Verdicts.declarations_have_one_verdict
