-- The laws, as they are stated.
use Rattle.std.proofs.Common.{◌≡◌, ◌≢◌, ℕ, ◌<◌, Bool, true, false, List, [], ◌∷◌, ◌++◌, map, length, Some, refl, sym, ap, ◌∙◌, subst}
use Rattle.std.specs.Prelude.{Contains, if◌then◌else◌, slice_get}
use Rattle.std.proofs.lemmas.List.{length-map}
use Rattle.std.proofs.lemmas.List.Elements.{All-contains, All-map}
use Rattle.lf_definitions.specs.Typing.{LfGoal}
use Rattle.lf_definitions.specs.Signatures.{LfSignature}
use Rattle.lf_definitions.specs.ShapedGoals.{ShapedGoals}
use Rattle.lf_definitions.specs.GoalLists.{LfGoals, all_goals, ids}
use Rattle.lf_definitions.specs.Instantiation.{rename_goal}
use Rattle.head_laws.specs.Renumbering.{place_of_number, canon}
use Rattle.head_laws.proofs.GoalListLaws.{canon_numbers_by_place}
use Rattle.goal_lists.proofs.Laws.{renumbering_is_renaming}
use Rattle.goal_lists.proofs.RenamedLists.{AreClosed-ShapedGoals}
use Rattle.application_laws.specs.Conditions.{inside, goals_inside}
use Rattle.application_laws.proofs.Inside.{goals_inside_are_shaped, contains_inside}
use Rattle.clusters.specs.Clusters.{classes, is_one_of, cluster_of, clusters}
use Rattle.clusters.specs.Links.{Splits}
use Rattle.clusters.specs.Laws.{ClassesCover, ClassesAreApart, ClassesAreConnected, ClustersAreShaped, ClustersAreNoneWhereNoGoalIs}
use Rattle.clusters.proofs.Elements.{contains_none, all_elements}
use Rattle.clusters.proofs.Classes.{is_in_classes, is_in_goals, classes_apart, classes_are_inhabited, member_has_number}
use Rattle.clusters.proofs.Connected.{connected_in_class, connected_stays, classes_split}

pub classes_cover : ClassesCover
classes_cover goals g = (is_in_classes goals g, λ r. is_in_goals goals r.0 g r.1 r.2)

pub classes_are_apart : ClassesAreApart
classes_are_apart = classes_apart

pub classes_are_connected : ClassesAreConnected
classes_are_connected goals distinct class has g is h there = (connected_in_class goals class has g h is, λ p. connected_stays goals class has p is)

-- goals inside, in both parts of a list
pub inside_parts : (within : ℕ → Bool) (xs ys : List LfGoal) → inside within (xs ++ ys) ≡ inside within xs ++ inside within ys
inside_parts within [] ys = refl
inside_parts within (x ∷ xs) ys = step (within x.id) (inside_parts within xs ys)
  where
    step : (b : Bool) → inside within (xs ++ ys) ≡ inside within xs ++ inside within ys →
        (if b then x ∷ inside within (xs ++ ys) else inside within (xs ++ ys)) ≡ (if b then x ∷ inside within xs else inside within xs) ++ inside within ys
    step true e = ap (λ more. x ∷ more) e
    step false e = e

abbrev IsNumberedByPlace : List LfGoal → Type 0
IsNumberedByPlace goals = (i : ℕ) → i < length goals → slice_get (ids goals) i ≡ Some i

canon_is_numbered : (sig : LfSignature) (goals : List LfGoal) → ShapedGoals sig goals → IsNumberedByPlace (canon goals)
canon_is_numbered sig goals shaped i less = canon_numbers_by_place goals shaped.0 i (subst (λ n. i < n) (length-map goals (rename_goal (place_of_number (ids goals)))) less)

canon_is_inhabited : (goals : List LfGoal) (g : LfGoal) → Contains goals g → canon goals ≢ []
canon_is_inhabited [] g has e = contains_none g has
canon_is_inhabited (x ∷ rest) g has e = absurd cc

abbrev IsGoodCluster : LfSignature → LfGoals → Type 0
IsGoodCluster sig cluster = ShapedGoals sig (all_goals cluster) × (all_goals cluster ≢ []) × IsNumberedByPlace (all_goals cluster)

good_cluster : (sig : LfSignature) (list : LfGoals) → ShapedGoals sig (all_goals list) → (class : List LfGoal) → Contains (classes (all_goals list)) class → IsGoodCluster sig (cluster_of list class)
good_cluster sig list shaped class has =
    let within = is_one_of class in
    let goals = all_goals list in
    let kept = goals_inside within list in
    let split = All-contains (λ c. Splits (is_one_of c) goals) (classes goals) class (classes_split goals shaped.0 (AreClosed-ShapedGoals sig goals shaped)) has in
    let same : inside within goals ≡ all_goals kept = inside_parts within list.proofs list.witnesses in
    let shaped_kept : ShapedGoals sig (all_goals kept) = subst (ShapedGoals sig) same (goals_inside_are_shaped sig goals within shaped split.0) in
    let laws = renumbering_is_renaming kept in
    let first = All-contains (λ c. (g : LfGoal) × Contains c g) (classes goals) class (classes_are_inhabited goals) has in
    let there : Contains (all_goals kept) first.0 =
    subst (λ xs. Contains xs first.0) same (contains_inside within goals first.0 (is_in_goals goals class first.0 has first.1) (member_has_number class first.0 first.1)) in (
      laws.2 sig shaped_kept,
      (λ e. canon_is_inhabited (all_goals kept) first.0 there (sym laws.0 ∙ e)),
      subst IsNumberedByPlace (sym laws.0) (canon_is_numbered sig (all_goals kept) shaped_kept),
    )

pub clusters_are_shaped : ClustersAreShaped
unfolding clusters
clusters_are_shaped sig list shaped =
    All-map (IsGoodCluster sig) (cluster_of list) (classes (all_goals list)) (all_elements (λ class. IsGoodCluster sig (cluster_of list class)) (classes (all_goals list)) (good_cluster sig list shaped))

pub clusters_are_none_where_no_goal_is : ClustersAreNoneWhereNoGoalIs
unfolding clusters
clusters_are_none_where_no_goal_is list = (λ e. none (all_goals list) e, λ e. ap (λ goals. map (cluster_of list) (classes goals)) e)
  where
    none : (goals : List LfGoal) → map (cluster_of list) (classes goals) ≡ [] → goals ≡ []
    none [] e = refl
    none (x ∷ rest) e = absurd cc
