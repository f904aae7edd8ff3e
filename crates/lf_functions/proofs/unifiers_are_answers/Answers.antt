use Rattle.lf_functions.proofs.unifiers_are_answers.Goals as goal
use Rattle.lf_functions.proofs.EndingLaws

pub returns : goal.returns
returns c = EndingLaws.unifiers_are_answers
