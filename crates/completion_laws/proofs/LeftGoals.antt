-- What is left of goals: it is what the relation gives, and its goals are found by their numbers.
use Rattle.std.proofs.Common.{◌≡◌, ◌≢◌, ℕ, Bool, true, false, Option, Some, None, List, [], ◌∷◌, ◌++◌, All, refl, sym, ap, ap₂, ◌∙◌, subst}
use Rattle.std.specs.Prelude.{nat_eq, is_some, if◌then◌else◌, Contains}
use Rattle.std.proofs.lemmas.Bool.{eqb-true, ne_eqb}
use Rattle.std.proofs.lemmas.List.Elements.{All-head, All-tail, All-contains, All-weaker}
use Rattle.lf_definitions.specs.Syntax.{LfTerm, shape_of}
use Rattle.lf_definitions.specs.ShapedGoals.{scope_in, ShapedGoal}
use Rattle.lf_definitions.specs.Typing.{LfGoal, goal_type, type_of_metavariable}
use Rattle.lf_definitions.specs.Signatures.{LfSignature}
use Rattle.lf_definitions.specs.GoalLists.{ids}
use Rattle.lf_definitions.specs.Instantiation.{Assignment}
use Rattle.lf_definitions.proofs.Options.{None-Some}
use Rattle.goal_lists.specs.Assigning.{Leaves, leaves_none, goal_dropped, goal_stays}
use Rattle.goal_lists.specs.Laws.{GoesToGoals}
use Rattle.goal_lists.proofs.Leaving.{unique_left}
use Rattle.lf_functions.specs.Instances.{instance_of_goal}
use Rattle.lf_functions.proofs.Results.{instances_are_the_one_result}
use Rattle.lf_functions.proofs.InstanceLaws.{instances_go_part_by_part, instances_keep_shapes}
use Rattle.opening_laws.proofs.Numbers.{found_shape}
use Rattle.applications.specs.Applications.{goals_left}
use Rattle.application_laws.proofs.Members.{IsIn, in_here, in_later, instance_id}
use Rattle.completion_laws.specs.Laws.{WhatIsLeftIsGoalsLeft}

-- The function gives what the relation gives.
pub leaves_goals_left : (sig : LfSignature) (goals others : List LfGoal) (σ : Assignment) → GoesToGoals sig goals others σ → (some : List LfGoal) → All (ShapedGoal sig goals) some → Leaves σ some (goals_left goals σ some)
leaves_goals_left sig goals others σ goes [] all = leaves_none
leaves_goals_left sig goals others σ goes (h ∷ rest) all = step (σ h.id) refl (leaves_goals_left sig goals others σ goes rest (All-tail (ShapedGoal sig goals) h rest all))
  where
    step : (o : Option LfTerm) → σ h.id ≡ o → Leaves σ rest (goals_left goals σ rest) → Leaves σ (h ∷ rest) (if is_some o then goals_left goals σ rest else instance_of_goal goals σ h ∷ goals_left goals σ rest)
    step (Some u) e later = goal_dropped u e later
    step None e later =
        let one = (instances_are_the_one_result sig goals [] goes.0 (scope_in sig others []) σ goes.1).5 h (All-head (ShapedGoal sig goals) h rest all) in
        goal_stays e ((one.0 (instance_of_goal goals σ h)).1 refl) later

pub what_is_left_is_goals_left : WhatIsLeftIsGoalsLeft
what_is_left_is_goals_left sig goals others σ shaped goes some left among leaves =
    unique_left (leaves_goals_left sig goals others σ goes some (All-weaker (Contains goals) (ShapedGoal sig goals) (λ h is. All-contains (ShapedGoal sig goals) goals h shaped.1 is) some among)) leaves

pub instance_shape : (goals : List LfGoal) (σ : Assignment) (h : LfGoal) → shape_of (goal_type (instance_of_goal goals σ h)) ≡ shape_of (goal_type h)
instance_shape goals σ h = ap shape_of ((instances_go_part_by_part goals σ).6 h) ∙ (instances_keep_shapes goals σ).0 (goal_type h)

-- A number without an entry has the shape that it had.
pub left_shape : (goals : List LfGoal) (σ : Assignment) (list more : List LfGoal) (m : ℕ) → σ m ≡ None → found_shape (goals_left goals σ list ++ more) m ≡ found_shape (list ++ more) m
left_shape goals σ [] more m none = refl
left_shape goals σ (h ∷ rest) more m none = step (σ h.id) refl (left_shape goals σ rest more m none)
  where
    step : (o : Option LfTerm) → σ h.id ≡ o → found_shape (goals_left goals σ rest ++ more) m ≡ found_shape (rest ++ more) m →
        found_shape ((if is_some o then goals_left goals σ rest else instance_of_goal goals σ h ∷ goals_left goals σ rest) ++ more) m ≡ found_shape (h ∷ rest ++ more) m
    step (Some u) e later = later ∙ passed (nat_eq h.id m) refl
      where
        passed : (b : Bool) → nat_eq h.id m ≡ b → found_shape (rest ++ more) m ≡ (if b then Some (shape_of (goal_type h)) else found_shape (rest ++ more) m)
        passed true same = absurd (None-Some none (ap σ (sym (eqb-true h.id m same)) ∙ e))
        passed false same = refl
    step None e later =
        ap₂ (λ k s. if nat_eq k m then Some s else found_shape (goals_left goals σ rest ++ more) m) (instance_id goals σ h) (instance_shape goals σ h)
        ∙ ap (λ o. if nat_eq h.id m then Some (shape_of (goal_type h)) else o) later

-- A number that is not among some goals is looked up after them.
pub passed_type : (xs ys : List LfGoal) (m : ℕ) → (IsIn m (ids xs) → ⊥) → type_of_metavariable (xs ++ ys) m ≡ type_of_metavariable ys m
passed_type [] ys m not_in = refl
passed_type (x ∷ xs) ys m not_in = step (nat_eq x.id m) refl (passed_type xs ys m (λ is. not_in (in_later m x.id (ids xs) is)))
  where
    step : (b : Bool) → nat_eq x.id m ≡ b → type_of_metavariable (xs ++ ys) m ≡ type_of_metavariable ys m → (if b then Some (goal_type x) else type_of_metavariable (xs ++ ys) m) ≡ type_of_metavariable ys m
    step true same later = absurd (not_in (subst (λ k. IsIn m (k ∷ ids xs)) (sym (eqb-true x.id m same)) (in_here m (ids xs))))
    step false same later = later

-- One more goal at the end is another number's.
pub last_passed : (xs : List LfGoal) (h : LfGoal) (m : ℕ) → h.id ≢ m → type_of_metavariable (xs ++ h ∷ []) m ≡ type_of_metavariable xs m
last_passed [] h m differ = ap (λ b. if b then Some (goal_type h) else None) (ne_eqb h.id m differ)
last_passed (x ∷ xs) h m differ = ap (λ o. if nat_eq x.id m then Some (goal_type x) else o) (last_passed xs h m differ)
