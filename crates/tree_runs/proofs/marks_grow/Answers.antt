use Rattle.tree_runs.proofs.marks_grow.Goals as goal
use Rattle.tree_runs.proofs.Marks.{proved-grow, stuck-grow, relevant-grow}

pub returns : goal.returns
returns c = λ shape node counts is_shape stands ungrown other. (
  proved-grow shape node counts is_shape stands ungrown other,
  stuck-grow shape node counts is_shape stands ungrown other,
  relevant-grow shape node counts is_shape stands ungrown other,
)
