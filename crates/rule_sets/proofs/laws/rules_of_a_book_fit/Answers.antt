use Rattle.rule_sets.proofs.FittingRules.{rules_of_a_book_fit}
use Rattle.rule_sets.proofs.laws.rules_of_a_book_fit.Goals as goal

pub returns : goal.returns
returns c = rules_of_a_book_fit
