use Rattle.tree_derivations.proofs.marks_decide_derivability.Goals as goal
use Rattle.tree_derivations.proofs.Laws

pub returns : goal.returns
returns c = Laws.marks_decide_derivability
