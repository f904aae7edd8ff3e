use Rattle.token_verdicts.proofs.texts_have_one_verdict.Goals as goal
use Rattle.token_verdicts.proofs.Verdicts

pub returns : goal.returns
returns c = Verdicts.texts_have_one_verdict
