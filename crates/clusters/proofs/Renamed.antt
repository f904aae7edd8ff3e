-- Classes and clusters under other numbers.
use Rattle.std.proofs.Common.{◌≡◌, ℕ, Bool, true, false, List, [], ◌∷◌, ◌++◌, map, refl, sym, ap, ap₂, ◌∙◌}
use Rattle.std.specs.Prelude.{not, ◌||◌, if◌then◌else◌, filter, nat_eq}
use Rattle.std.specs.List.{list_any}
use Rattle.std.proofs.lemmas.List.{map-append}
use mathlib.Core.Path.{fun_ext}
use Rattle.lf_definitions.specs.Syntax.{metavariable}
use Rattle.lf_definitions.specs.Typing.{LfGoal, goal_type}
use Rattle.lf_definitions.specs.GoalLists.{LfGoals, all_goals, ids}
use Rattle.lf_definitions.specs.Instantiation.{rename_goal, IsInjective}
use Rattle.head_laws.specs.Renumbering.{place_of_number}
use Rattle.head_laws.proofs.Occurrence.{OccursInType-true, occurs_in_type-from}
use Rattle.head_laws.proofs.MetavariableLaws.{metavariables_occur_renamed}
use Rattle.head_laws.proofs.Numbers.{nat_eq-map, place_of_number-map}
use Rattle.head_laws.proofs.GoalNumbers.{ids-rename_goal, rename_goal-rename_goal}
use Rattle.goal_lists.specs.Numbering.{renumbered}
use Rattle.applications.specs.Laws.{rename_goals}
use Rattle.application_laws.specs.Conditions.{inside, goals_inside}
use Rattle.clusters.specs.Clusters.{goal_mentions, are_linked, touches, classes, is_one_of, cluster_of, clusters}
use Rattle.clusters.specs.Laws.{ClassesAreRenamed, ClustersForgetNumbers}
use Rattle.clusters.proofs.Elements.{joined}
use Rattle.clusters.proofs.Classes.{touched, untouched}

-- truth values that hold together
pub same_truth : (a b : Bool) → (a ≡ true → b ≡ true) → (b ≡ true → a ≡ true) → a ≡ b
same_truth true b to from = sym (to refl)
same_truth false true to from = from refl
same_truth false false to from = refl

-- lists that are mapped
pub map_after : {X Y Z : Type 0} (f : Y → Z) (g : X → Y) (xs : List X) → map f (map g xs) ≡ map (λ x. f (g x)) xs
map_after f g [] = refl
map_after f g (x ∷ xs) = ap (λ more. f (g x) ∷ more) (map_after f g xs)

pub map_same : {X Y : Type 0} (f g : X → Y) → ((x : X) → f x ≡ g x) → (xs : List X) → map f xs ≡ map g xs
map_same f g same [] = refl
map_same f g same (x ∷ xs) = ap₂ (λ y more. y ∷ more) (same x) (map_same f g same xs)

any_mapped : {X Y : Type 0} (f : X → Y) (p : Y → Bool) (q : X → Bool) → ((x : X) → p (f x) ≡ q x) → (xs : List X) → list_any p (map f xs) ≡ list_any q xs
any_mapped f p q same [] = refl
any_mapped f p q same (x ∷ xs) = ap₂ (λ a b. a || b) (same x) (any_mapped f p q same xs)

filter_mapped : {X Y : Type 0} (f : X → Y) (p : Y → Bool) (q : X → Bool) → ((x : X) → p (f x) ≡ q x) → (xs : List X) → filter p (map f xs) ≡ map f (filter q xs)
filter_mapped f p q same [] = refl
filter_mapped f p q same (x ∷ xs) = ap (λ b. if b then f x ∷ filter p (map f xs) else filter p (map f xs)) (same x) ∙ step (q x) (filter_mapped f p q same xs)
  where
    step : (b : Bool) → filter p (map f xs) ≡ map f (filter q xs) → (if b then f x ∷ filter p (map f xs) else filter p (map f xs)) ≡ map f (if b then x ∷ filter q xs else filter q xs)
    step true e = ap (λ more. f x ∷ more) e
    step false e = e

joined_mapped : {X Y : Type 0} (f : X → Y) (xss : List (List X)) → joined (map (map f) xss) ≡ map f (joined xss)
joined_mapped f [] = refl
joined_mapped f (xs ∷ xss) = ap (λ more. map f xs ++ more) (joined_mapped f xss) ∙ sym (map-append f xs (joined xss))

module _ (ρ : ℕ → ℕ) (injective : IsInjective ρ) where
  mentions_renamed : (g : LfGoal) (m : ℕ) → goal_mentions (rename_goal ρ g) (ρ m) ≡ goal_mentions g m
  mentions_renamed g m =
      let both = (metavariables_occur_renamed ρ injective (metavariable m)).4 g in
      same_truth (goal_mentions (rename_goal ρ g) (ρ m)) (goal_mentions g m)
      (λ e. occurs_in_type-from (both.0 (OccursInType-true (metavariable (ρ m)) (goal_type (rename_goal ρ g)) e)))
      (λ e. occurs_in_type-from (both.1 (OccursInType-true (metavariable m) (goal_type g) e)))

  linked_renamed : (g h : LfGoal) → are_linked (rename_goal ρ g) (rename_goal ρ h) ≡ are_linked g h
  linked_renamed g h = ap₂ (λ a b. a || b) (mentions_renamed g h.id) (mentions_renamed h g.id)

  touches_renamed : (g : LfGoal) (class : List LfGoal) → touches (rename_goal ρ g) (map (rename_goal ρ) class) ≡ touches g class
  touches_renamed g = any_mapped (rename_goal ρ) (are_linked (rename_goal ρ g)) (are_linked g) (linked_renamed g)

  made_renamed : (g : LfGoal) (found : List (List LfGoal)) → rename_goal ρ g ∷ joined (touched (rename_goal ρ g) (map (map (rename_goal ρ)) found)) ≡ map (rename_goal ρ) (g ∷ joined (touched g found))
  made_renamed g found =
      ap (λ more. rename_goal ρ g ∷ more)
      (ap joined (filter_mapped (map (rename_goal ρ)) (touches (rename_goal ρ g)) (touches g) (touches_renamed g) found) ∙ joined_mapped (rename_goal ρ) (touched g found))

  untouched_renamed : (g : LfGoal) (found : List (List LfGoal)) → untouched (rename_goal ρ g) (map (map (rename_goal ρ)) found) ≡ map (map (rename_goal ρ)) (untouched g found)
  untouched_renamed g =
      filter_mapped (map (rename_goal ρ)) (λ class. not (touches (rename_goal ρ g) class)) (λ class. not (touches g class)) (λ class. ap not (touches_renamed g class))

  pub classes_renamed : (goals : List LfGoal) → classes (map (rename_goal ρ) goals) ≡ map (map (rename_goal ρ)) (classes goals)
  classes_renamed [] = refl
  classes_renamed (g ∷ rest) =
      ap (λ found. (rename_goal ρ g ∷ joined (touched (rename_goal ρ g) found)) ∷ untouched (rename_goal ρ g) found) (classes_renamed rest)
      ∙ ap₂ (λ class others. class ∷ others) (made_renamed g (classes rest)) (untouched_renamed g (classes rest))

  -- the goals of a class
  is_one_renamed : (class : List LfGoal) (m : ℕ) → is_one_of (map (rename_goal ρ) class) (ρ m) ≡ is_one_of class m
  is_one_renamed class m = ap (list_any (nat_eq (ρ m))) (ids-rename_goal ρ class) ∙ any_mapped ρ (nat_eq (ρ m)) (nat_eq m) (nat_eq-map ρ injective m) (ids class)

  inside_renamed : (class goals : List LfGoal) → inside (is_one_of (map (rename_goal ρ) class)) (map (rename_goal ρ) goals) ≡ map (rename_goal ρ) (inside (is_one_of class) goals)
  inside_renamed class [] = refl
  inside_renamed class (g ∷ rest) =
      ap (λ b. if b then rename_goal ρ g ∷ inside others (map (rename_goal ρ) rest) else inside others (map (rename_goal ρ) rest)) (is_one_renamed class g.id)
      ∙ step (is_one_of class g.id) (inside_renamed class rest)
    where
      others : ℕ → Bool
      others = is_one_of (map (rename_goal ρ) class)

      step : (b : Bool) → inside others (map (rename_goal ρ) rest) ≡ map (rename_goal ρ) (inside (is_one_of class) rest) →
          (if b then rename_goal ρ g ∷ inside others (map (rename_goal ρ) rest) else inside others (map (rename_goal ρ) rest))
          ≡ map (rename_goal ρ) (if b then g ∷ inside (is_one_of class) rest else inside (is_one_of class) rest)
      step true e = ap (λ more. rename_goal ρ g ∷ more) e
      step false e = e

  goals_inside_renamed : (list : LfGoals) (class : List LfGoal) → goals_inside (is_one_of (map (rename_goal ρ) class)) (rename_goals ρ list) ≡ rename_goals ρ (goals_inside (is_one_of class) list)
  goals_inside_renamed list class =
      ap₂ (λ proofs witnesses. record { proofs = proofs; witnesses = witnesses }) (inside_renamed class list.proofs) (inside_renamed class list.witnesses)

  -- Places are the same under other numbers.
  all_renamed : (list : LfGoals) → all_goals (rename_goals ρ list) ≡ map (rename_goal ρ) (all_goals list)
  all_renamed list = sym (map-append (rename_goal ρ) list.proofs list.witnesses)

  placed_again : (ns : List ℕ) (goals : List LfGoal) → map (rename_goal (place_of_number (map ρ ns))) (map (rename_goal ρ) goals) ≡ map (rename_goal (place_of_number ns)) goals
  placed_again ns goals =
      map_after (rename_goal (place_of_number (map ρ ns))) (rename_goal ρ) goals
      ∙ map_same (λ g. rename_goal (place_of_number (map ρ ns)) (rename_goal ρ g)) (rename_goal (place_of_number ns))
      (λ g. rename_goal-rename_goal (place_of_number (map ρ ns)) ρ g ∙ ap (λ π. rename_goal π g) (fun_ext (place_of_number-map ρ injective ns))) goals

  renumbered_renamed : (list : LfGoals) → renumbered (rename_goals ρ list) ≡ renumbered list
  renumbered_renamed list =
      let numbers : ids (all_goals (rename_goals ρ list)) ≡ map ρ (ids (all_goals list)) = ap ids (all_renamed list) ∙ ids-rename_goal ρ (all_goals list) in
      ap (λ ns. record { proofs = map (rename_goal (place_of_number ns)) (map (rename_goal ρ) list.proofs); witnesses = map (rename_goal (place_of_number ns)) (map (rename_goal ρ) list.witnesses) }) numbers
      ∙ ap₂ (λ proofs witnesses. record { proofs = proofs; witnesses = witnesses }) (placed_again (ids (all_goals list)) list.proofs) (placed_again (ids (all_goals list)) list.witnesses)

  cluster_renamed : (list : LfGoals) (class : List LfGoal) → cluster_of (rename_goals ρ list) (map (rename_goal ρ) class) ≡ cluster_of list class
  cluster_renamed list class = ap renumbered (goals_inside_renamed list class) ∙ renumbered_renamed (goals_inside (is_one_of class) list)

  pub clusters_renamed : (list : LfGoals) → clusters (rename_goals ρ list) ≡ clusters list
  unfolding clusters
  clusters_renamed list =
      ap (map (cluster_of (rename_goals ρ list))) (ap classes (all_renamed list) ∙ classes_renamed (all_goals list))
      ∙ map_after (cluster_of (rename_goals ρ list)) (map (rename_goal ρ)) (classes (all_goals list))
      ∙ map_same (λ class. cluster_of (rename_goals ρ list) (map (rename_goal ρ) class)) (cluster_of list) (cluster_renamed list) (classes (all_goals list))

pub classes_are_renamed : ClassesAreRenamed
classes_are_renamed = classes_renamed

pub clusters_forget_numbers : ClustersForgetNumbers
clusters_forget_numbers = clusters_renamed
