use Rattle.rule_sets.proofs.Over.{list_keeps_over}
use Rattle.rule_sets.proofs.laws.added_lists_keep_books_over_signatures.Goals as goal

pub returns : goal.returns
returns c = list_keeps_over
