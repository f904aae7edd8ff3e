use Rattle.derivations.proofs.derivable_types_replay.Goals as goal
use Rattle.derivations.proofs.Scripts

pub returns : goal.returns
returns c = Scripts.derivable_types_replay
