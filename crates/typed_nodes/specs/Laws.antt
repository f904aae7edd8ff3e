-- Clusters and the nodes of the unfolding are well formed.
use Rattle.std.specs.Prelude.{◌≡◌, ℕ, List, [], Some, All}
use Rattle.lf_definitions.specs.Syntax.{LfType}
use Rattle.lf_definitions.specs.Typing.{Formed}
use Rattle.lf_definitions.specs.Signatures.{LfSignature, FormedSignature, kinds_in, typing_in}
use Rattle.lf_definitions.specs.GoalLists.{LfGoals, all_goals, FormedGoals}
use Rattle.application_laws.specs.Conditions.{TakesAtoms}
use Rattle.alternatives.specs.Rules.{LfRule}
use Rattle.clusters.specs.Clusters.{clusters}
use Rattle.derivations.specs.Unfolding.{branches_of, goals_at}
use Rattle.tree_runs.specs.Addresses.{Address}

-- The clusters of well-formed goals are well formed.
abbrev pub ClustersAreFormed : Type 0
ClustersAreFormed = (sig : LfSignature) → FormedSignature sig → (list : LfGoals) → FormedGoals sig (all_goals list) → All (λ cluster. FormedGoals sig (all_goals cluster)) (clusters list)

-- So are the children of a list of well-formed goals, and what stands at each address of the unfolding of a well-formed type.
abbrev pub NodesAreFormed : Type 0
NodesAreFormed =
    (sig : LfSignature) → FormedSignature sig → (rules : List LfRule) → All (λ rule. TakesAtoms sig rule.method) rules →
    ((list : LfGoals) → FormedGoals sig (all_goals list) → All (λ (branch : ℕ × List LfGoals). All (λ child. FormedGoals sig (all_goals child)) branch.1) (branches_of sig rules list))
    × ((a : LfType) → Formed (kinds_in sig) (typing_in sig [] []) a → (address : Address) (list : LfGoals) → goals_at sig rules a address ≡ Some list → FormedGoals sig (all_goals list))
