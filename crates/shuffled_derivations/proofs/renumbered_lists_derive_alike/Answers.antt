use Rattle.shuffled_derivations.proofs.renumbered_lists_derive_alike.Goals as goal
use Rattle.shuffled_derivations.proofs.Laws

pub returns : goal.returns
returns c = Laws.renumbered_lists_derive_alike
