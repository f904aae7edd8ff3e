use Rattle.shuffled_derivations.proofs.derivations_are_of_children.Goals as goal
use Rattle.shuffled_derivations.proofs.Children

pub returns : goal.returns
returns c = Children.derivations_are_of_children
