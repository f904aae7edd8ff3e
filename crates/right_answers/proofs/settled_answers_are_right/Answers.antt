use Rattle.right_answers.proofs.settled_answers_are_right.Goals as goal
use Rattle.right_answers.proofs.Laws

pub returns : goal.returns
returns c = Laws.settled_answers_are_right
