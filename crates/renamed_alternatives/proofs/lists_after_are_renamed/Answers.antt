use Rattle.renamed_alternatives.proofs.lists_after_are_renamed.Goals as goal
use Rattle.renamed_alternatives.proofs.ListsAfter

pub returns : goal.returns
returns c = ListsAfter.lists_after_are_renamed
