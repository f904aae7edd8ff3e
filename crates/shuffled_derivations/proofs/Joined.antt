-- Lists that fall apart in classes: a derivation is one of each class, numbered by its places.
use Rattle.std.proofs.Common.{◌≡◌, ℕ, ◌+◌, ◌||◌, Bool, true, false, not, List, [], ◌∷◌, map, sum, All, AllPairs, refl, sym, ap, ◌∙◌, subst}
use Rattle.std.specs.Prelude.{Contains, nat_eq}
use Rattle.std.specs.List.{list_any}
use Rattle.std.proofs.lemmas.Bool.{eqb-true}
use Rattle.std.proofs.lemmas.List.Elements.{All-head, All-tail, All-weaker}
use Rattle.lf_definitions.specs.Typing.{LfGoal}
use Rattle.lf_definitions.specs.Signatures.{LfSignature}
use Rattle.lf_definitions.specs.GoalLists.{LfGoals, all_goals, ids}
use Rattle.head_laws.proofs.Numbers.{AllPairs-head, AllPairs-tail}
use Rattle.goal_lists.specs.Numbering.{renumbered}
use Rattle.goal_lists.proofs.RenamedLists.{AreClosed-ShapedGoals}
use Rattle.application_laws.specs.Conditions.{goals_inside}
use Rattle.application_laws.proofs.Inside.{All-inside}
use Rattle.alternatives.specs.Rules.{LfRule}
use Rattle.tree_runs.proofs.Shapes.{sum-cons}
use Rattle.clusters.specs.Clusters.{classes, is_one_of, cluster_of, clusters}
use Rattle.clusters.specs.Links.{outside_of, Splits}
use Rattle.clusters.proofs.Elements.{all_elements, any_found, found_any}
use Rattle.clusters.proofs.Classes.{AreApart, is_in_classes, classes_apart, member_has_number}
use Rattle.clusters.proofs.Connected.{classes_split}
use Rattle.framed_alternatives.proofs.Found.{map_alike}
use Rattle.framed_alternatives.proofs.Insides.{all-inside}
use Rattle.shuffled_derivations.specs.Lengths.{Derives, DeriveEach}
use Rattle.shuffled_derivations.specs.Laws.{MayBeDerived, DerivationsAreOfClusters}
use Rattle.shuffled_derivations.proofs.Insides.{part_splits, goals_inside-outside}
use Rattle.shuffled_derivations.proofs.Alike.{part_may_be_derived, no_step, derives_alike, renumbered_twice, renumbered_may_be_derived}
use Rattle.shuffled_derivations.proofs.Shuffled.{derivation_splits, derivations_join}

-- a goal's number is that of a goal of one of some classes
abbrev is_covered : List (List LfGoal) → LfGoal → Bool
is_covered found g = list_any (λ class. is_one_of class g.id) found

-- No mention crosses the border of a class, no number is in two of them, and each goal is in one.
record FallsApart (sig : LfSignature) (rules : List LfRule) (list : LfGoals) (found : List (List LfGoal)) : Type 0 where
  may_be_derived : MayBeDerived sig rules list
  splits : All (λ class. Splits (is_one_of class) (all_goals list)) found
  apart : AllPairs AreApart found
  covered : All (λ g. is_covered found g ≡ true) (all_goals list)

contained_number : (class : List LfGoal) (m : ℕ) → is_one_of class m ≡ true → Contains (ids class) m
contained_number class m is = let r = any_found (nat_eq m) (ids class) is in subst (Contains (ids class)) (sym (eqb-true m r.0 r.2)) r.1

apart_by_number : (class other : List LfGoal) → AreApart class other → (m : ℕ) → is_one_of class m ≡ true → is_one_of other m ≡ true → ⊥
apart_by_number class other apart m is is_other = apart m (contained_number class m is) (contained_number other m is_other)

-- The classes of a list are such classes.
classes_fall_apart : (sig : LfSignature) (rules : List LfRule) (list : LfGoals) → MayBeDerived sig rules list → FallsApart sig rules list (classes (all_goals list))
classes_fall_apart sig rules list may =
    let goals = all_goals list in
    record {
      may_be_derived = may;
      splits = classes_split goals may.goals.0 (AreClosed-ShapedGoals sig goals may.goals);
      apart = (classes_apart goals may.goals.0).1;
      covered = all_elements (λ g. is_covered (classes goals) g ≡ true) goals
          (λ g has. let r = is_in_classes goals g has in found_any (λ class. is_one_of class g.id) (classes goals) r.0 r.1 (member_has_number r.0 g r.2));
    }

module _ (sig : LfSignature) (rules : List LfRule) where
  -- What is left of the list without the first class.
  module _ (list : LfGoals) (class : List LfGoal) (found : List (List LfGoal)) (falls : FallsApart sig rules list (class ∷ found)) where
    abbrev within : ℕ → Bool
    within = is_one_of class

    abbrev left : LfGoals
    left = goals_inside (outside_of within) list

    first_splits : Splits within (all_goals list)
    first_splits = All-head (λ c. Splits (is_one_of c) (all_goals list)) class found falls.splits

    first_may_be : MayBeDerived sig rules (goals_inside within list)
    first_may_be = part_may_be_derived sig rules list falls.may_be_derived within first_splits.0

    later_covered : All (λ g. is_covered found g ≡ true) (all_goals left)
    later_covered =
        subst (All (λ g. is_covered found g ≡ true)) (sym (all-inside (outside_of within) list))
        (All-inside (outside_of within) (λ g. is_covered found g ≡ true) (all_goals list)
        (All-weaker (λ g. is_covered (class ∷ found) g ≡ true) (λ g. outside_of within g.id ≡ true → is_covered found g ≡ true) (λ g is. drop (within g.id) (is_covered found g) is) (all_goals list) falls.covered))
      where
        drop : (b c : Bool) → b || c ≡ true → not b ≡ true → c ≡ true
        drop true c e f = absurd cc
        drop false c e f = e

    later_fall_apart : FallsApart sig rules left found
    later_fall_apart = record {
      may_be_derived = part_may_be_derived sig rules list falls.may_be_derived (outside_of within) first_splits.1;
      splits = All-weaker (λ c. Splits (is_one_of c) (all_goals list)) (λ c. Splits (is_one_of c) (all_goals left)) (λ c. part_splits (outside_of within) (is_one_of c) list) found
          (All-tail (λ c. Splits (is_one_of c) (all_goals list)) class found falls.splits);
      apart = AllPairs-tail AreApart class found falls.apart;
      covered = later_covered;
    }

    same_later : map (cluster_of left) found ≡ map (cluster_of list) found
    same_later =
        map_alike (cluster_of left) (cluster_of list) found
        (All-weaker (AreApart class) (λ c. cluster_of left c ≡ cluster_of list c) (λ c apart. ap renumbered (goals_inside-outside within (is_one_of c) (apart_by_number class c apart) list)) found
        (AllPairs-head AreApart class found falls.apart))

    to_cluster : (n : ℕ) → Derives sig rules n (goals_inside within list) → Derives sig rules n (cluster_of list class)
    to_cluster n =
        derives_alike sig rules n (goals_inside within list) (cluster_of list class) first_may_be (renumbered_may_be_derived sig rules (goals_inside within list) first_may_be)
        (sym (renumbered_twice sig rules (goals_inside within list) first_may_be))

    from_cluster : (n : ℕ) → Derives sig rules n (cluster_of list class) → Derives sig rules n (goals_inside within list)
    from_cluster n =
        derives_alike sig rules n (cluster_of list class) (goals_inside within list) (renumbered_may_be_derived sig rules (goals_inside within list) first_may_be) first_may_be
        (renumbered_twice sig rules (goals_inside within list) first_may_be)

  no_class_no_goal : (list : LfGoals) → FallsApart sig rules list [] → all_goals list ≡ []
  no_class_no_goal list falls = each (all_goals list) falls.covered
    where
      each : (goals : List LfGoal) → All (λ g. is_covered [] g ≡ true) goals → goals ≡ []
      each [] all = refl
      each (g ∷ rest) all = let e : false ≡ true = All-head (λ h. is_covered [] h ≡ true) g rest all in absurd cc

  -- A derivation of each of the clusters of some classes.
  abbrev DerivesClusters : ℕ → LfGoals → List (List LfGoal) → Type 0
  DerivesClusters n list found = (ns : List ℕ) × (sum ns ≡ n) × DeriveEach sig rules ns (map (cluster_of list) found)

  falls_in_clusters : (found : List (List LfGoal)) (list : LfGoals) → FallsApart sig rules list found → (n : ℕ) → Derives sig rules n list → DerivesClusters n list found
  falls_in_clusters [] list falls n d = ([], sym (no_step sig rules list (no_class_no_goal list falls) n d), tt)
  falls_in_clusters (class ∷ found) list falls n d =
      let parts = derivation_splits sig rules n list falls.may_be_derived (is_one_of class) (first_splits list class found falls) d in
      let rest = falls_in_clusters found (left list class found falls) (later_fall_apart list class found falls) parts.1 parts.4 in (
        parts.0 ∷ rest.0,
        sum-cons parts.0 rest.0 ∙ ap (λ k. parts.0 + k) rest.1 ∙ parts.2,
        (to_cluster list class found falls parts.0 parts.3, subst (DeriveEach sig rules rest.0) (same_later list class found falls) rest.2),
      )

  clusters_join : (found : List (List LfGoal)) (list : LfGoals) → FallsApart sig rules list found → (ns : List ℕ) → DeriveEach sig rules ns (map (cluster_of list) found) → Derives sig rules (sum ns) list
  clusters_join [] list falls [] each = no_class_no_goal list falls
  clusters_join [] list falls (n ∷ ns) each = absurd each
  clusters_join (class ∷ found) list falls [] each = absurd each
  clusters_join (class ∷ found) list falls (n ∷ ns) each =
      let rest = clusters_join found (left list class found falls) (later_fall_apart list class found falls) ns (subst (DeriveEach sig rules ns) (sym (same_later list class found falls)) each.1) in
      derivations_join sig rules (sum (n ∷ ns)) list falls.may_be_derived (is_one_of class) (first_splits list class found falls)
      (n, sum ns, sym (sum-cons n ns), from_cluster list class found falls n each.0, rest)

pub derivations_are_of_clusters : DerivationsAreOfClusters
unfolding clusters
derivations_are_of_clusters sig rules list may n = (
  falls_in_clusters sig rules (classes (all_goals list)) list (classes_fall_apart sig rules list may) n,
  λ d. subst (λ k. Derives sig rules k list) d.1 (clusters_join sig rules (classes (all_goals list)) list (classes_fall_apart sig rules list may) d.0 d.2),
)
