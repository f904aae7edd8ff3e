use Rattle.rule_problem.proofs.BookLaws
use Rattle.rule_problem.proofs.laws.branches_are_of_alternatives.Goals as goal

pub returns : goal.returns
returns c = BookLaws.branches_are_of_alternatives
