use Rattle.typed_nodes.proofs.nodes_are_formed.Goals as goal
use Rattle.typed_nodes.proofs.Nodes

pub returns : goal.returns
returns c = Nodes.nodes_are_formed
