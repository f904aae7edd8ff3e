use Rattle.syntax_verdicts.proofs.tokens_have_one_verdict.Goals as goal
use Rattle.syntax_verdicts.proofs.Verdicts

pub returns : goal.returns
returns c = Verdicts.tokens_have_one_verdict
