use Rattle.tree_runs.proofs.undecided_roots_have_relevant_nodes.Goals as goal
use Rattle.tree_runs.proofs.Progress.{progress}

pub returns : goal.returns
returns c = λ shape is_shape undecided. let found = progress shape is_shape undecided in (found.node, found.stands, found.ungrown, found.relevant)
