use Rattle.opening_laws.proofs.all_may_be_kept.Goals as goal
use Rattle.opening_laws.proofs.AllKept

pub returns : goal.returns
returns c = AllKept.all_may_be_kept
