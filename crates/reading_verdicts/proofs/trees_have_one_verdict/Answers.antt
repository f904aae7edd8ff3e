use Rattle.reading_verdicts.proofs.trees_have_one_verdict.Goals as goal
use Rattle.reading_verdicts.proofs.Verdicts

pub returns : goal.returns
returns c = Verdicts.trees_have_one_verdict
