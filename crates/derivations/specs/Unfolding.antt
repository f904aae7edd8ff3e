-- The unfolding of a list of goals: what stands at each address of its search.
use Rattle.std.specs.Prelude.{ℕ, List, map, Option}
use Rattle.lf_definitions.specs.Syntax.{LfType}
use Rattle.lf_definitions.specs.Signatures.{LfSignature}
use Rattle.lf_definitions.specs.GoalLists.{LfGoals, opening}
use Rattle.alternatives.specs.Rules.{LfRule}
use Rattle.clusters.specs.Clusters.{clusters}
use Rattle.derivations.specs.Derivations.{alternatives_of}
use Rattle.tree_runs.specs.Addresses.{Address, at}

-- The branches of a list: for each alternative its percentage and the clusters of the goals that it leaves.
unfoldable pub branches_of : LfSignature → List LfRule → LfGoals → List (ℕ × List LfGoals)
branches_of sig rules list = map (λ alternative. (alternative.percent, clusters alternative.goals)) (alternatives_of sig rules list)

-- The list of goals at an address below the opening list of a type.
abbrev pub goals_at : LfSignature → List LfRule → LfType → Address → Option LfGoals
goals_at sig rules a address = at (branches_of sig rules) (opening a) address
