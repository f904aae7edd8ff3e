use Rattle.build_laws.proofs.nothing_follows.Goals as goal
use Rattle.build_laws.proofs.Laws

pub returns : goal.returns
returns c = Laws.nothing_follows
