use Rattle.build_laws.proofs.following_is_associative.Goals as goal
use Rattle.build_laws.proofs.Laws

pub returns : goal.returns
returns c = Laws.following_is_associative
