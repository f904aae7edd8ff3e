-- Rule books: rules in the order in which they were added, and the constructors that are listed for families.
use Rattle.std.specs.Prelude.{◌≡◌, ◌≢◌, ℕ, ◌≤◌, List, [], ◌∷◌, length, take, AllPairs, codes, Option, Some, None, if◌then◌else◌, nat_eq, negsuc}
use Rattle.basics.specs.Limits.{most_rules}
use Rattle.rule_sets.specs.declared.rule.Phase.TheVariants.{Safe, Unsafe}
use Rattle.rule_sets.specs.declared.rule.Builder.{Builder}
use Rattle.rule_sets.specs.declared.rule.Builder.TheVariants.{Assumption, Hyps}
use Rattle.rule_sets.specs.declared.rule.Rule.{Rule}

-- the constructors of a family, by their numbers
pub record Listed : Type 0 where
  pub of_family : ℕ
  pub constants : List ℕ

-- The rules have their places as numbers, from 0.
pub record Book : Type 0 where
  pub rules : List Rule
  pub lists : List Listed

-- a hypothesis that is the goal
abbrev pub assumption_rule : Rule
assumption_rule = record { name = codes "assumption"; set = codes "builtin"; phase = Safe (negsuc 49); builder = Assumption; subject = 0; major = 0 }

-- a hypothesis that leads to the goal
abbrev pub hyps_rule : Rule
hyps_rule = record { name = codes "hyps"; set = codes "builtin"; phase = Unsafe 75; builder = Hyps; subject = 0; major = 0 }

-- the book of the built-in rules
abbrev pub first_book : Book
first_book = record { rules = assumption_rule ∷ hyps_rule ∷ []; lists = [] }

-- The builder is none of the built-in ones.
abbrev pub IsUserBuilder : Builder → Type 0
IsUserBuilder Assumption = ⊥
IsUserBuilder Hyps = ⊥
IsUserBuilder _ = Unit {0}

-- A book begins with the two built-in rules and has no more rules than may be, each under a name of its own. A family has at most one list.
pub record IsBook (book : Book) : Type 0 where
  pub built_in : take 2 book.rules ≡ first_book.rules
  pub few : length book.rules ≤ most_rules
  pub names_differ : AllPairs (λ rule other. rule.name ≢ other.name) book.rules
  pub families_differ : AllPairs (λ listed other. listed.of_family ≢ other.of_family) book.lists

-- the constructors of a family, if they are listed
abbrev pub list_of : List Listed → ℕ → Option (List ℕ)
list_of [] f = None
list_of (listed ∷ rest) f = if nat_eq listed.of_family f then Some listed.constants else list_of rest f

-- an entry of a table from families to constructors
abbrev pub listed : ℕ × List ℕ → Listed
listed e = record { of_family = e.0; constants = e.1 }
