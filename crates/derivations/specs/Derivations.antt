-- Derivations: choices of alternatives that leave no goal of a list, one after another under one substitution.
use Rattle.std.specs.Prelude.{◌≡◌, ℕ, List, [], ◌∷◌, Some, slice_get}
use Rattle.lf_definitions.specs.Syntax.{LfType}
use Rattle.lf_definitions.specs.Signatures.{LfSignature}
use Rattle.lf_definitions.specs.GoalLists.{LfGoals, all_goals, next_id, opening}
use Rattle.alternatives.specs.Rules.{LfRule}
use Rattle.alternatives.specs.Alternatives.{LfAlternative, alternatives}

-- The alternatives of a list, with fresh numbers above those of its goals.
abbrev pub alternatives_of : LfSignature → List LfRule → LfGoals → List LfAlternative
alternatives_of sig rules list = alternatives sig rules (next_id list) list

-- The numbers of alternatives, each of the list that the one before leaves, until no goal is left.
pub data IsDerivation (sig : LfSignature) (rules : List LfRule) : LfGoals → List ℕ → Type 0 where
  no_goal_left : {list : LfGoals} → all_goals list ≡ [] → IsDerivation sig rules list []
  one_step : {list : LfGoals} {rest : List ℕ} (i : ℕ) (alternative : LfAlternative) → slice_get (alternatives_of sig rules list) i ≡ Some alternative →
      IsDerivation sig rules alternative.goals rest → IsDerivation sig rules list (i ∷ rest)

-- The opening list of a type has a derivation.
abbrev pub IsDerivable : LfSignature → List LfRule → LfType → Type 0
IsDerivable sig rules a = (numbers : List ℕ) × IsDerivation sig rules (opening a) numbers
