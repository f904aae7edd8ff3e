use Rattle.shuffled_derivations.proofs.derivable_types_open.Goals as goal
use Rattle.shuffled_derivations.proofs.Laws

pub returns : goal.returns
returns c = Laws.derivable_types_open
