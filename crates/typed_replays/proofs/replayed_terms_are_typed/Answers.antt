use Rattle.typed_replays.proofs.replayed_terms_are_typed.Goals as goal
use Rattle.typed_replays.proofs.Replays

pub returns : goal.returns
returns c = Replays.replayed_terms_are_typed
