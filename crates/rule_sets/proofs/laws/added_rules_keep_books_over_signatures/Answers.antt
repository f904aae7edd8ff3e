use Rattle.rule_sets.proofs.Over.{rule_keeps_over}
use Rattle.rule_sets.proofs.laws.added_rules_keep_books_over_signatures.Goals as goal

pub returns : goal.returns
returns c = rule_keeps_over
