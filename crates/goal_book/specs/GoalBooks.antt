-- What a contract sees of a book of rules for goals, and which of its rules fit a goal.
use Rattle.std.specs.Prelude.{◌≡◌, ℕ, List, [], Option, Some, None}
use Rattle.lf_definitions.specs.Typing.{LfGoal}
use Rattle.lf_definitions.specs.Signatures.{LfSignature}
use Rattle.lf_definitions.specs.GoalLists.{LfGoals, first_goal}
use Rattle.rule_sets.specs.Books.{Book}
use Rattle.rule_sets.specs.Refusals.{IsOver}
use Rattle.rule_sets.specs.Orders.{IsOrder}
use Rattle.rule_index.specs.Keys.{KeyedRule, keyed_rules, compatible_rules}
use Rattle.alternatives.specs.Rules.{LfRule}
use Rattle.goal_book.specs.Rules.{rules_of}

-- A signature, a book of rules over it, and the numbers of the active rules in the order in which they are tried.
pub record LfBook : Type 0 where
  pub sig : LfSignature
  pub book : Book
  pub numbers : List ℕ

-- the active rules, in that order
abbrev pub rules_in : LfBook → List LfRule
rules_in b = rules_of b.book b.numbers

-- the numbers of those that are compatible with a goal's target; where there is no goal, there are none
abbrev pub fitting_for : LfSignature → Book → List ℕ → Option LfGoal → List ℕ
fitting_for sig book numbers None = []
fitting_for sig book numbers (Some g) = compatible_rules (keyed_rules sig book numbers) g.target

-- the numbers of those that fit the first goal of a list
abbrev pub fitting_in : LfBook → LfGoals → List ℕ
fitting_in b goals = fitting_for b.sig b.book b.numbers (first_goal goals)

-- The book is over the signature, and the numbers are the order of its rules of some sets.
pub record IsGoalBook (b : LfBook) : Type 0 where
  pub over : IsOver b.sig b.book
  pub sets : List (List ℕ)
  pub is_order : IsOrder b.book sets b.numbers

-- And the index is that of these rules.
pub record KeepsGoalBook (b : LfBook) (index : List KeyedRule) : Type 0 where
  pub formed : IsGoalBook b
  pub index_is : index ≡ keyed_rules b.sig b.book b.numbers

-- The book of the rules of these sets.
pub record IsBookOf (sig : LfSignature) (book : Book) (sets : List (List ℕ)) (b : LfBook) : Type 0 where
  pub sig_is : b.sig ≡ sig
  pub book_is : b.book ≡ book
  pub is_order : IsOrder book sets b.numbers
