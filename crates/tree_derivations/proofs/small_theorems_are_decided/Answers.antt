use Rattle.tree_derivations.proofs.small_theorems_are_decided.Goals as goal
use Rattle.tree_derivations.proofs.Laws

pub returns : goal.returns
returns c = Laws.small_theorems_are_decided
