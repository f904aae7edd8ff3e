use Rattle.tree_runs.proofs.marks_exclude.Goals as goal
use Rattle.tree_runs.proofs.Marks

pub returns : goal.returns
returns c = Marks.marks_exclude
