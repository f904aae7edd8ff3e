use Rattle.tree_runs.proofs.shapes_grow.Goals as goal
use Rattle.tree_runs.proofs.Shapes.{IsShape-root, IsShape-grow}

pub returns : goal.returns
returns c = (IsShape-root, IsShape-grow)
