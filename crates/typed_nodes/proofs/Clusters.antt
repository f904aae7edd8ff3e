-- The clusters of well-formed goals are well formed.
use Rattle.std.proofs.Common.{◌≡◌, List, sym, subst}
use Rattle.std.specs.Prelude.{Contains}
use Rattle.std.proofs.lemmas.List.Elements.{All-contains, All-map}
use Rattle.lf_definitions.specs.Typing.{LfGoal}
use Rattle.lf_definitions.specs.Signatures.{LfSignature, FormedSignature}
use Rattle.lf_definitions.specs.GoalLists.{LfGoals, all_goals, FormedGoals}
use Rattle.lf_definitions.proofs.ShapedGoals.{ShapedSignature-FormedSignature}
use Rattle.head_laws.proofs.RenamedGoalLaws.{renamed_goals_are_formed}
use Rattle.typing_laws.proofs.ClosedTypes.{ShapedGoals-FormedGoals}
use Rattle.goal_lists.proofs.Laws.{renumbering_is_renaming}
use Rattle.goal_lists.proofs.RenamedLists.{AreClosed-ShapedGoals}
use Rattle.application_laws.specs.Conditions.{inside, goals_inside}
use Rattle.clusters.specs.Clusters.{classes, is_one_of, cluster_of, clusters}
use Rattle.clusters.specs.Links.{Splits}
use Rattle.clusters.proofs.Elements.{all_elements}
use Rattle.clusters.proofs.Connected.{classes_split}
use Rattle.clusters.proofs.Laws.{inside_parts}
use Rattle.typed_nodes.specs.Laws.{ClustersAreFormed}
use Rattle.typed_nodes.proofs.Inside.{goals_inside_are_formed}

module _ (sig : LfSignature) (of_sig : FormedSignature sig) (list : LfGoals) (formed : FormedGoals sig (all_goals list)) where
  formed_cluster : (class : List LfGoal) → Contains (classes (all_goals list)) class → FormedGoals sig (all_goals (cluster_of list class))
  formed_cluster class has =
      let within = is_one_of class in
      let goals = all_goals list in
      let kept = goals_inside within list in
      let split = All-contains (λ c. Splits (is_one_of c) goals) (classes goals) class (classes_split goals formed.0 (AreClosed-ShapedGoals sig goals (ShapedGoals-FormedGoals sig goals formed))) has in
      let same : inside within goals ≡ all_goals kept = inside_parts within list.proofs list.witnesses in
      let formed_kept : FormedGoals sig (all_goals kept) = subst (FormedGoals sig) same (goals_inside_are_formed sig goals within formed split.0) in
      subst (FormedGoals sig) (sym (renumbering_is_renaming kept).0) ((renamed_goals_are_formed sig (ShapedSignature-FormedSignature sig of_sig) (all_goals kept)).1 formed_kept)

pub clusters_are_formed : ClustersAreFormed
unfolding clusters
clusters_are_formed sig of_sig list formed =
    All-map (λ cluster. FormedGoals sig (all_goals cluster)) (cluster_of list) (classes (all_goals list))
    (all_elements (λ class. FormedGoals sig (all_goals (cluster_of list class))) (classes (all_goals list)) (formed_cluster sig of_sig list formed))
