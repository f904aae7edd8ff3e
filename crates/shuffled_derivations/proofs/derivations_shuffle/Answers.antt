use Rattle.shuffled_derivations.proofs.derivations_shuffle.Goals as goal
use Rattle.shuffled_derivations.proofs.Shuffled

pub returns : goal.returns
returns c = Shuffled.derivations_shuffle
