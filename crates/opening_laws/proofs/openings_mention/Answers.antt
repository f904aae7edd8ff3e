use Rattle.opening_laws.proofs.openings_mention.Goals as goal
use Rattle.opening_laws.proofs.Mentions

pub returns : goal.returns
returns c = Mentions.openings_mention
