use Rattle.typed_steps.proofs.alternatives_keep_types.Goals as goal
use Rattle.typed_steps.proofs.Alternatives

pub returns : goal.returns
returns c = Alternatives.alternatives_keep_types
