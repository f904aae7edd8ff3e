use Rattle.std.proofs.Common.{◌≡◌, List, [], ◌∷◌, map, refl, ap, ◌∙◌}
use Rattle.lf_definitions.specs.GoalLists.{LfGoals}
use Rattle.goal_clusters.specs.declared.split.Cluster.{Cluster}
use Rattle.meta_goals.specs.GoalsOf.{goals_of}
use Rattle.rule_problem.proofs.branching.branch_of.Goals as goal

goals_of_clusters : (found : List Cluster) → map goals_of (map (λ (cluster : Cluster). cluster.goals) found) ≡ map (λ (cluster : Cluster). goals_of cluster.goals) found
goals_of_clusters [] = refl
goals_of_clusters (cluster ∷ rest) = ap (λ more. goals_of cluster.goals ∷ more) (goals_of_clusters rest)

pub returns : goal.returns
returns c =
    ap (λ (nodes : List LfGoals). (c.args.alternative.percent, nodes))
    (ap (map goals_of) c.in_ok-nodes.ensures ∙ goals_of_clusters c.in_ok-clusters.field-0.items ∙ c.in_ok-clusters.ensures.goals)
