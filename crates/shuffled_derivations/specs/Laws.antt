-- The laws of derivations of lists that fall apart.
use Rattle.std.specs.Prelude.{◌≡◌, ◌≢◌, ◌↔◌, ℕ, suc, ◌+◌, Bool, List, [], length, sum, Some, slice_get, All}
use Rattle.lf_definitions.specs.Syntax.{LfType}
use Rattle.lf_definitions.specs.ShapedGoals.{ShapedSignature, ShapedGoals, ShapedTypeIn}
use Rattle.lf_definitions.specs.Signatures.{LfSignature}
use Rattle.lf_definitions.specs.GoalLists.{LfGoals, all_goals, opening}
use Rattle.goal_lists.specs.Numbering.{renumbered}
use Rattle.application_laws.specs.Conditions.{TakesAtoms, goals_inside}
use Rattle.alternatives.specs.Rules.{LfRule}
use Rattle.clusters.specs.Clusters.{clusters}
use Rattle.clusters.specs.Links.{outside_of, Splits}
use Rattle.derivations.specs.Derivations.{IsDerivation, IsDerivable}
use Rattle.derivations.specs.Unfolding.{branches_of}
use Rattle.shuffled_derivations.specs.Lengths.{Derives, DeriveEach}

-- The signature and the goals are shaped, and no rule takes a hypothesis for an argument that has binders.
pub record MayBeDerived (sig : LfSignature) (rules : List LfRule) (list : LfGoals) : Type 0 where
  pub signature : ShapedSignature sig
  pub rules_take_atoms : All (λ rule. TakesAtoms sig rule.method) rules
  pub goals : ShapedGoals sig (all_goals list)

-- A list has a derivation of a length exactly where it has numbers of alternatives that are one.
abbrev pub LengthsAreOfDerivations : Type 0
LengthsAreOfDerivations =
    (sig : LfSignature) (rules : List LfRule) (list : LfGoals) (n : ℕ) → Derives sig rules n list ↔ (numbers : List ℕ) × IsDerivation sig rules list numbers × (length numbers ≡ n)

-- Lists that are the same once they are numbered by their places have derivations of the same lengths.
abbrev pub RenumberedListsDeriveAlike : Type 0
RenumberedListsDeriveAlike =
    (sig : LfSignature) (rules : List LfRule) (list other : LfGoals) → MayBeDerived sig rules list → MayBeDerived sig rules other → renumbered list ≡ renumbered other →
    (n : ℕ) → Derives sig rules n list ↔ Derives sig rules n other

-- Where no mention crosses a border, a derivation of the list is a derivation of what is inside and one of what is outside, and their lengths add up.
abbrev pub DerivationsShuffle : Type 0
DerivationsShuffle =
    (sig : LfSignature) (rules : List LfRule) (list : LfGoals) → MayBeDerived sig rules list → (within : ℕ → Bool) → Splits within (all_goals list) →
    (n : ℕ) → Derives sig rules n list ↔
    (p q : ℕ) × (p + q ≡ n) × Derives sig rules p (goals_inside within list) × Derives sig rules q (goals_inside (outside_of within) list)

-- So a derivation of a list is one of each of its clusters.
abbrev pub DerivationsAreOfClusters : Type 0
DerivationsAreOfClusters =
    (sig : LfSignature) (rules : List LfRule) (list : LfGoals) → MayBeDerived sig rules list →
    (n : ℕ) → Derives sig rules n list ↔ (ns : List ℕ) × (sum ns ≡ n) × DeriveEach sig rules ns (clusters list)

-- And a derivation of a list that has a goal is one of each child of one of its branches, with one step more; it has no derivation without a step. The children of a branch
-- are shaped and have goals.
abbrev pub DerivationsAreOfChildren : Type 0
DerivationsAreOfChildren =
    (sig : LfSignature) (rules : List LfRule) (list : LfGoals) → MayBeDerived sig rules list → all_goals list ≢ [] →
    (Derives sig rules 0 list → ⊥)
    × ((n : ℕ) → Derives sig rules (suc n) list ↔
    (i percent : ℕ) × (children : List LfGoals) × (ns : List ℕ) × (slice_get (branches_of sig rules list) i ≡ Some (percent, children)) × (sum ns ≡ n) × DeriveEach sig rules ns children)
    × All (λ (branch : ℕ × List LfGoals). All (λ child. MayBeDerived sig rules child × (all_goals child ≢ [])) branch.1) (branches_of sig rules list)

-- A type is derivable exactly where its opening list has a derivation of some length, and that list is shaped.
abbrev pub DerivableTypesOpen : Type 0
DerivableTypesOpen =
    (sig : LfSignature) (rules : List LfRule) (a : LfType) →
    (IsDerivable sig rules a ↔ (n : ℕ) × Derives sig rules n (opening a)) × (ShapedTypeIn sig [] [] a → ShapedGoals sig (all_goals (opening a)))
