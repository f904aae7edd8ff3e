use Rattle.shuffled_derivations.proofs.derivations_are_of_clusters.Goals as goal
use Rattle.shuffled_derivations.proofs.Joined

pub returns : goal.returns
returns c = Joined.derivations_are_of_clusters
