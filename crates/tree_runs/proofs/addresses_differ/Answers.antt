use Rattle.tree_runs.proofs.addresses_differ.Goals as goal
use Rattle.tree_runs.proofs.Order.{address_of-apart}

pub returns : goal.returns
returns c = λ shape node other is_shape a b e. address_of-apart shape is_shape node other a b e
