use Rattle.typed_nodes.proofs.clusters_are_formed.Goals as goal
use Rattle.typed_nodes.proofs.Clusters

pub returns : goal.returns
returns c = Clusters.clusters_are_formed
