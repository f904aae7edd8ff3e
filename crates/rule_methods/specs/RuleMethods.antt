-- What the rules of a book do with a goal.
use Rattle.std.specs.Prelude.{◌≡◌, ℕ, zero, suc, List, [], Option, Some, None, slice_get}
use Rattle.lf_definitions.specs.GoalLists.{LfGoals, next_id}
use Rattle.lf_definitions.specs.Signatures.{LfSignature}
use Rattle.applications.specs.Methods.{Method, applies, constructs, splits, goes_forward, takes_apart, assumes, uses_hypotheses}
use Rattle.applications.specs.Applications.{LfApplication, applications}
use Rattle.rule_sets.specs.declared.rule.Builder.{Builder}
use Rattle.rule_sets.specs.declared.rule.Builder.TheVariants.{Apply, Constructors, Cases, Forward, Destruct, Assumption, Hyps}
use Rattle.rule_sets.specs.declared.rule.Rule.{Rule}
use Rattle.rule_sets.specs.Books.{Listed, Book, list_of}

-- none where nothing is listed
abbrev pub listed_or_none : Option (List ℕ) → List ℕ
listed_or_none None = []
listed_or_none (Some constants) = constants

-- A rule counts the arguments of its constant from 1, and a method from 0.
abbrev pub place_of_major : ℕ → ℕ
place_of_major zero = zero
place_of_major (suc place) = place

abbrev pub method_by : List Listed → Builder → (subject major : ℕ) → Method
method_by lists Apply subject major = applies subject
method_by lists Constructors subject major = constructs (listed_or_none (list_of lists subject))
method_by lists Cases subject major = splits subject (place_of_major major)
method_by lists Forward subject major = goes_forward subject
method_by lists Destruct subject major = takes_apart subject
method_by lists Assumption subject major = assumes
method_by lists Hyps subject major = uses_hypotheses

-- What a rule does, by its builder, where these constructors are listed for families.
abbrev pub method_of : List Listed → Rule → Method
method_of lists rule = method_by lists rule.builder rule.subject rule.major

-- The applications of a rule, which has this number, to the first goal of a list. The fresh numbers are those above the goals' numbers.
abbrev pub applications_of : LfSignature → List Listed → ℕ → Rule → LfGoals → List LfApplication
applications_of sig lists number rule goals = applications sig number (method_of lists rule) (next_id goals) goals

-- A rule of a book has this number, and its builder is one of some.
pub record HasRule (book : Book) (number : ℕ) (Builds : Builder → Type 0) : Type 0 where
  pub rule : Rule
  pub rule_is : slice_get book.rules number ≡ Some rule
  pub builds : Builds rule.builder

-- These are the applications of the rule of this number, in order.
abbrev pub AreApplications : LfSignature → Book → ℕ → LfGoals → List LfApplication → Type 0
AreApplications sig book number goals found = (rule : Rule) → slice_get book.rules number ≡ Some rule → found ≡ applications_of sig book.lists number rule goals
