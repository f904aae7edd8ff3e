use Rattle.renamed_alternatives.proofs.alternatives_are_renamed.Goals as goal
use Rattle.renamed_alternatives.proofs.Alternatives

pub returns : goal.returns
returns c = Alternatives.alternatives_are_renamed
