use Rattle.rule_sets.proofs.Over.{first_is_over}
use Rattle.rule_sets.proofs.laws.the_first_book_is_over_each_signature.Goals as goal

pub returns : goal.returns
returns c = first_is_over
