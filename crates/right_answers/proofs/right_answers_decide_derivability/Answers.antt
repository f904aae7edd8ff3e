use Rattle.right_answers.proofs.right_answers_decide_derivability.Goals as goal
use Rattle.right_answers.proofs.Laws

pub returns : goal.returns
returns c = Laws.right_answers_decide_derivability
