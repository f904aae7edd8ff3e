use Rattle.renamed_alternatives.proofs.new_numbers_are_fresh.Goals as goal
use Rattle.renamed_alternatives.proofs.NewNumbers

pub returns : goal.returns
returns c = NewNumbers.new_numbers_are_fresh
