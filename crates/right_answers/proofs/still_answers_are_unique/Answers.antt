use Rattle.right_answers.proofs.still_answers_are_unique.Goals as goal
use Rattle.right_answers.proofs.Laws

pub returns : goal.returns
returns c = Laws.still_answers_are_unique
