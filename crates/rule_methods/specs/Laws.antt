-- The law of the rules of a book.
use Rattle.std.specs.Prelude.{◌≡◌, ℕ, Some, slice_get}
use Rattle.lf_definitions.specs.Signatures.{LfSignature}
use Rattle.rule_sets.specs.declared.rule.Rule.{Rule}
use Rattle.rule_sets.specs.Books.{Book}
use Rattle.rule_sets.specs.Refusals.{IsOver}
use Rattle.application_laws.specs.Conditions.{TakesAtoms}
use Rattle.rule_methods.specs.RuleMethods.{method_of}

-- Where a rule of a book over a signature takes a hypothesis for an argument, that argument has no binders.
abbrev pub RulesTakeAtoms : Type 0
RulesTakeAtoms = (sig : LfSignature) (book : Book) → IsOver sig book → (number : ℕ) (rule : Rule) → slice_get book.rules number ≡ Some rule → TakesAtoms sig (method_of book.lists rule)
