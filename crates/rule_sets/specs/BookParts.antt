-- What the parts of a rule book have in common.
use Rattle.std.specs.Prelude.{◌≡◌, ℕ, List, map}
use Rattle.rule_sets.specs.declared.rule.Rule.{Rule}
use Rattle.rule_sets.specs.Books.{Listed, IsBook}

-- The rules and the lists are a book, and the names stand in the order of its rules.
pub record AreBookParts (rules : List Rule) (names : List (List ℕ)) (lists : List Listed) : Type 0 where
  pub is_book : IsBook (record { rules = rules; lists = lists })
  pub names_are : names ≡ map (λ rule. rule.name) rules
