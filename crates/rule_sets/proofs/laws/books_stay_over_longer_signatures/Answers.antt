use Rattle.rule_sets.proofs.Over.{stays_over}
use Rattle.rule_sets.proofs.laws.books_stay_over_longer_signatures.Goals as goal

pub returns : goal.returns
returns c = stays_over
