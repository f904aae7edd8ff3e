-- The tree of goals closes exactly where one list of goals does: what the marks of the unfolding say of derivations.
use Rattle.std.specs.Prelude.{◌≡◌, ◌≢◌, ◌⊎◌, ◌≤◌, List, [], length, All, AllPairs, Some}
use Rattle.std.specs.List.{Contains}
use Rattle.lf_definitions.specs.Syntax.{LfType}
use Rattle.lf_definitions.specs.ShapedGoals.{ShapedSignature, ShapedTypeIn}
use Rattle.lf_definitions.specs.Signatures.{LfSignature}
use Rattle.lf_definitions.specs.GoalLists.{LfGoals, opening}
use Rattle.application_laws.specs.Conditions.{TakesAtoms}
use Rattle.alternatives.specs.Rules.{LfRule}
use Rattle.derivations.specs.Derivations.{IsDerivable}
use Rattle.derivations.specs.Unfolding.{branches_of, goals_at}
use Rattle.tree_runs.specs.Addresses.{Address, Proved, Stuck}
use Rattle.mark_laws.specs.Laws.{HasParents}

-- A theorem's type is shaped over a shaped signature, and no rule takes a hypothesis for an argument that has binders.
pub record IsTheorem (sig : LfSignature) (rules : List LfRule) (a : LfType) : Type 0 where
  pub signature : ShapedSignature sig
  pub rules_take_atoms : All (λ rule. TakesAtoms sig rule.method) rules
  pub type : ShapedTypeIn sig [] [] a

-- Where the root is proved the theorem is derivable; where it is stuck the theorem isn't; and where it is derivable, some finite set of addresses makes the root proved.
abbrev pub MarksDecideDerivability : Type 0
MarksDecideDerivability =
    (sig : LfSignature) (rules : List LfRule) (a : LfType) → IsTheorem sig rules a →
    ((committed : List Address) → Proved (branches_of sig rules) (opening a) committed [] → IsDerivable sig rules a)
    × ((committed : List Address) → Stuck (branches_of sig rules) (opening a) committed [] → IsDerivable sig rules a → ⊥)
    × (IsDerivable sig rules a → (committed : List Address) × HasParents committed × Proved (branches_of sig rules) (opening a) committed [])

-- Where the unfolding of a theorem has at most so many addresses, as many that differ decide the root.
abbrev pub SmallTheoremsAreDecided : Type 0
SmallTheoremsAreDecided =
    (sig : LfSignature) (rules : List LfRule) (a : LfType) (addresses : List Address) →
    ((address : Address) (list : LfGoals) → goals_at sig rules a address ≡ Some list → Contains addresses address) →
    (committed : List Address) → AllPairs (λ p q. p ≢ q) committed → All (λ address. (list : LfGoals) × (goals_at sig rules a address ≡ Some list)) committed →
    length addresses ≤ length committed →
    Proved (branches_of sig rules) (opening a) committed [] ⊎ Stuck (branches_of sig rules) (opening a) committed []
