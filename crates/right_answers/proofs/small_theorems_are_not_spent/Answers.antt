use Rattle.right_answers.proofs.small_theorems_are_not_spent.Goals as goal
use Rattle.right_answers.proofs.Laws

pub returns : goal.returns
returns c = Laws.small_theorems_are_not_spent
