use Rattle.rule_problem.proofs.BookLaws
use Rattle.rule_problem.proofs.laws.types_over_books_are_theorems.Goals as goal

pub returns : goal.returns
returns c = BookLaws.types_over_books_are_theorems
