use Rattle.mark_laws.proofs.small_unfoldings_are_decided.Goals as goal
use Rattle.mark_laws.proofs.Laws

pub returns : goal.returns
returns g c = Laws.small_unfoldings_are_decided _
