-- The laws of books as problems.
use Rattle.std.specs.Prelude.{◌≡◌, []}
use Rattle.lf_definitions.specs.Syntax.{LfType}
use Rattle.lf_definitions.specs.Typing.{Formed}
use Rattle.lf_definitions.specs.Signatures.{FormedSignature, kinds_in, typing_in}
use Rattle.derivations.specs.Unfolding.{branches_of}
use Rattle.goal_book.specs.GoalBooks.{LfBook, rules_in, IsGoalBook}
use Rattle.answer_definitions.specs.Theorems.{IsFormedTheorem}
use Rattle.rule_problem.specs.Problems.{branches_in}

-- The branches of a book are those of its rules: a tree over it stands over the unfolding.
abbrev pub BranchesAreOfAlternatives : Type 0
BranchesAreOfAlternatives = (b : LfBook) → IsGoalBook b → branches_in b ≡ branches_of b.sig (rules_in b)

-- A well-formed type over a book is what laws of theorems ask for.
abbrev pub TypesOverBooksAreTheorems : Type 0
TypesOverBooksAreTheorems =
    (b : LfBook) → IsGoalBook b → FormedSignature b.sig → (a : LfType) → Formed (kinds_in b.sig) (typing_in b.sig [] []) a → IsFormedTheorem b.sig (rules_in b) a
