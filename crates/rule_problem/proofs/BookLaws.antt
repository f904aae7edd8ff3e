-- The laws, as they are stated.
use Rattle.std.proofs.Math.Path.{fun_ext}
use Rattle.goal_book.specs.GoalBooks.{rules_in}
use Rattle.rule_problem.specs.Laws.{BranchesAreOfAlternatives, TypesOverBooksAreTheorems}
use Rattle.rule_problem.proofs.BookRules.{rules_of_take_atoms, rules_of_are_low}
use Rattle.rule_problem.proofs.DifferentNumbers.{rules_of_an_order_differ}
use Rattle.rule_problem.proofs.Percentages.{no_branch_is_cut}

pub branches_are_of_alternatives : BranchesAreOfAlternatives
branches_are_of_alternatives b formed = fun_ext (no_branch_is_cut b.sig (rules_in b) (rules_of_are_low b.sig b.book formed.over b.numbers))

pub types_over_books_are_theorems : TypesOverBooksAreTheorems
types_over_books_are_theorems b formed sig a type = record {
  signature = sig;
  rules_take_atoms = rules_of_take_atoms b.sig b.book formed.over b.numbers;
  numbers_differ = rules_of_an_order_differ b.book formed.sets b.numbers formed.is_order;
  type = type;
}
