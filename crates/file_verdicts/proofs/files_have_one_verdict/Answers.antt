use Rattle.file_verdicts.proofs.files_have_one_verdict.Goals as goal
use Rattle.token_verdicts.proofs.Verdicts.{texts_have_one_verdict}
use Rattle.syntax_verdicts.proofs.Verdicts.{tokens_have_one_verdict}
use Rattle.program_verdicts.proofs.Verdicts.{declarations_have_one_verdict}
use Rattle.file_verdicts.proofs.Verdicts

pub returns : goal.returns
returns c = Verdicts.files_have_one_verdict texts_have_one_verdict tokens_have_one_verdict declarations_have_one_verdict
