-- The laws of rules of a book and their applications: on all goals, a rule that has one is compatible.
use Rattle.std.specs.Prelude.{◌≡◌, ℕ, List, true, Some, Contains, slice_get}
use Rattle.lf_definitions.specs.Typing.{LfGoal}
use Rattle.lf_definitions.specs.Signatures.{LfSignature}
use Rattle.rule_sets.specs.declared.rule.Rule.{Rule}
use Rattle.rule_sets.specs.Books.{Book}
use Rattle.rule_sets.specs.Refusals.{IsOver}
use Rattle.rule_index.specs.Keys.{rule_key, is_compatible, keyed_rules, compatible_rules}
use Rattle.applications.specs.Applications.{LfApplication, applications_to}
use Rattle.rule_methods.specs.RuleMethods.{method_of}

-- Where a rule of a book over a signature has an application to a goal, its key is compatible with the goal's target.
abbrev pub RulesWithApplicationsAreCompatible : Type 0
RulesWithApplicationsAreCompatible =
    (sig : LfSignature) (book : Book) → IsOver sig book → (number : ℕ) (rule : Rule) → slice_get book.rules number ≡ Some rule →
    (n : ℕ) (goals : List LfGoal) (g : LfGoal) (a : LfApplication) → Contains (applications_to sig number (method_of book.lists rule) n goals g) a →
    is_compatible (rule_key sig (slice_get book.rules number)) g.target ≡ true

-- So it is among the rules of any list that are compatible with the target, where it is of the list.
abbrev pub RulesWithApplicationsAreFound : Type 0
RulesWithApplicationsAreFound =
    (sig : LfSignature) (book : Book) → IsOver sig book → (number : ℕ) (rule : Rule) → slice_get book.rules number ≡ Some rule →
    (n : ℕ) (goals : List LfGoal) (g : LfGoal) (a : LfApplication) → Contains (applications_to sig number (method_of book.lists rule) n goals g) a →
    (numbers : List ℕ) → Contains numbers number → Contains (compatible_rules (keyed_rules sig book numbers) g.target) number
