use Rattle.build_laws.proofs.assignments_follow.Goals as goal
use Rattle.build_laws.proofs.Laws

pub returns : goal.returns
returns c = Laws.assignments_follow
