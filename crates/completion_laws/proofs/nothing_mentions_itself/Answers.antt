use Rattle.completion_laws.proofs.nothing_mentions_itself.Goals as goal
use Rattle.completion_laws.proofs.Itself

pub returns : goal.returns
returns c = Itself.nothing_mentions_itself
