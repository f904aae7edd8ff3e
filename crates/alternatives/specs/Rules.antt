-- The rules that are tried, in their order.
use Rattle.std.specs.Prelude.{ℕ, Bool, true, false, List}
use Rattle.lf_definitions.specs.Signatures.{LfSignature}
use Rattle.lf_definitions.specs.GoalLists.{LfGoals}
use Rattle.applications.specs.Methods.{Method}
use Rattle.applications.specs.Applications.{LfApplication, applications}

-- Rules normalise a goal; or they are safe, and are not taken back once they apply; or they are choices, each with the percentage to which it is trusted.
pub data LfPhase : Type 0 where
  normalising : LfPhase
  safe : LfPhase
  unsafe : ℕ → LfPhase

-- a rule's number, what it does and its phase
pub record LfRule : Type 0 where
  pub number : ℕ
  pub method : Method
  pub phase : LfPhase

abbrev pub is_normalising : LfPhase → Bool
is_normalising normalising = true
is_normalising safe = false
is_normalising (unsafe percent) = false

abbrev pub is_safe : LfPhase → Bool
is_safe normalising = false
is_safe safe = true
is_safe (unsafe percent) = false

-- The applications of a rule to the first goal of a list, with fresh numbers from `n` on.
abbrev pub found_by : LfSignature → ℕ → LfGoals → LfRule → List LfApplication
found_by sig n list rule = applications sig rule.number rule.method n list
