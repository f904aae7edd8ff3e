use Rattle.shuffled_derivations.proofs.lengths_are_of_derivations.Goals as goal
use Rattle.shuffled_derivations.proofs.Laws

pub returns : goal.returns
returns c = Laws.lengths_are_of_derivations
