-- What is left of goals, one after another.
use Rattle.std.proofs.Common.{◌≡◌, ℕ, zero, suc, ◌+◌, ◌<◌, ◌≤◌, Option, Some, None, List, [], ◌∷◌, ◌++◌, length, get_or, take, take_all, map, All, sym, ap, ◌∙◌, subst, subst₂, arith, option_map}
use Rattle.std.proofs.lemmas.List.{map-append}
use Rattle.std.proofs.lemmas.List.Elements.{All-nil, All-cons, All-head, All-tail, All-append}
use Rattle.lf_definitions.specs.Syntax.{SimpleType}
use Rattle.lf_definitions.specs.Shaping.{Scope}
use Rattle.lf_definitions.specs.Typing.{LfGoal}
use Rattle.lf_definitions.specs.Instantiation.{Assignment, InstantiatedGoal}
use Rattle.head_laws.specs.ReplacementLaws.{ShapedGoalOver}
use Rattle.lf_terms.specs.declared.goal.Goal.{Goal}
use Rattle.lf_terms.specs.Targets.{goal_of}
use Rattle.lf_terms.proofs.ShapeLists.{take_read}
use Rattle.goal_lists.specs.Assigning.{Leaves, leaves_none, goal_dropped, goal_stays}
use Rattle.meta_goals.specs.Bindings.{LfBinding, assigning, binding_for}
use Rattle.meta_goals.specs.Instantiates.{Instantiates, GoalIsShaped, GoalsAreShaped}
use Rattle.meta_goals.proofs.ChangedTerms.{in_scope, assigning-binding_for, put_by}
use Rattle.meta_goals.proofs.ChangedTypes.{goal_keeps_shape}

joined_left : {σ : Assignment} {xs ls : List LfGoal} → Leaves σ xs ls → (ys ms : List LfGoal) → Leaves σ ys ms → Leaves σ (xs ++ ys) (ls ++ ms)
joined_left leaves_none ys ms q = q
joined_left (goal_dropped u e p) ys ms q = goal_dropped u e (joined_left p ys ms q)
joined_left (goal_stays e here p) ys ms q = goal_stays e here (joined_left p ys ms q)

-- one goal more
pub left_more : (σ : Assignment) (xs : List Goal) (i : ℕ) (x : Goal) (before after more : List LfGoal) → i < length xs → x ≡ get_or xs i x → Leaves σ (map goal_of (take i xs)) before →
    Leaves σ (goal_of x ∷ []) more → after ≡ before ++ more → Leaves σ (map goal_of (take (i + 1) xs)) after
left_more σ xs i x before after more within is so_far here made =
    subst₂ (Leaves σ) (sym (ap (map goal_of) (take_read xs i x within is) ∙ map-append goal_of (take i xs) (x ∷ []))) (sym made) (joined_left so_far (goal_of x ∷ []) more here)

pub left_all : (σ : Assignment) (xs : List Goal) (i : ℕ) (goals left : List LfGoal) → length xs ≤ i → map goal_of xs ≡ goals → Leaves σ (map goal_of (take i xs)) left → Leaves σ goals left
left_all σ xs i goals left end are p = subst (λ l. Leaves σ l left) (ap (map goal_of) (take_all i xs end) ∙ are) p

pub All-read : (P : LfGoal → Type 0) (xs : List Goal) (i : ℕ) (x : Goal) → i < length xs → x ≡ get_or xs i x → All P (map goal_of xs) → P (goal_of x)
All-read P [] i x within is all = absurd (omega arith)
All-read P (y ∷ xs) zero x within is all = subst (λ z. P (goal_of z)) (sym is) (All-head P (goal_of y) (map goal_of xs) all)
All-read P (y ∷ xs) (suc i) x within is all = All-read P xs i x (omega arith) is (All-tail P (goal_of y) (map goal_of xs) all)

pub All-first : {X : Type 0} (P : X → Type 0) (xs ys : List X) → All P (xs ++ ys) → All P xs
All-first P [] ys all = All-nil P
All-first P (x ∷ xs) ys all = All-cons P x xs (All-head P x (xs ++ ys) all) (All-first P xs ys (All-tail P x (xs ++ ys) all))

All-last : (P : LfGoal → Type 0) (xs ys : List LfGoal) → All P (xs ++ ys) → All P ys
All-last P [] ys all = all
All-last P (x ∷ xs) ys all = All-last P xs ys (All-tail P x (xs ++ ys) all)

module _ (bindings : List LfBinding) where
  pub is_assigned : (g : ℕ) (b : LfBinding) → binding_for bindings g ≡ Some b → assigning bindings g ≡ Some (put_by b)
  is_assigned g b found = assigning-binding_for bindings g ∙ ap (option_map put_by) found

  pub is_unassigned : (g : ℕ) → binding_for bindings g ≡ None → assigning bindings g ≡ None
  is_unassigned g none = assigning-binding_for bindings g ∙ ap (option_map put_by) none

  pub instantiates_goal : (xs : List Goal) (i : ℕ) (x : Goal) → i < length xs → x ≡ get_or xs i x → Instantiates bindings (GoalsAreShaped (map goal_of xs)) → Instantiates bindings (GoalIsShaped (goal_of x))
  instantiates_goal xs i x within is p =
      in_scope bindings (GoalsAreShaped (map goal_of xs)) (GoalIsShaped (goal_of x)) p (p.shaped.0, All-read (ShapedGoalOver p.shaped.0 p.outer) xs i x within is p.shaped.1)

  pub instantiates_first : (xs ys : List LfGoal) → Instantiates bindings (GoalsAreShaped (xs ++ ys)) → Instantiates bindings (GoalsAreShaped xs)
  instantiates_first xs ys p = in_scope bindings (GoalsAreShaped (xs ++ ys)) (GoalsAreShaped xs) p (p.shaped.0, All-first (ShapedGoalOver p.shaped.0 p.outer) xs ys p.shaped.1)

  pub instantiates_last : (xs ys : List LfGoal) → Instantiates bindings (GoalsAreShaped (xs ++ ys)) → Instantiates bindings (GoalsAreShaped ys)
  instantiates_last xs ys p = in_scope bindings (GoalsAreShaped (xs ++ ys)) (GoalsAreShaped ys) p (p.shaped.0, All-last (ShapedGoalOver p.shaped.0 p.outer) xs ys p.shaped.1)

  one_keeps_shape : (H : Scope → Type 0) (kinds : ℕ → Option SimpleType) (p : Instantiates bindings H) (g h : LfGoal) → ShapedGoalOver kinds p.outer g → InstantiatedGoal (assigning bindings) g h → ShapedGoalOver kinds p.target h
  one_keeps_shape H kinds p g h shaped result = goal_keeps_shape bindings g h result (in_scope bindings H (GoalIsShaped g) p (kinds, shaped))

  left_keep_shape : (H : Scope → Type 0) (kinds : ℕ → Option SimpleType) (p : Instantiates bindings H) {goals left : List LfGoal} → Leaves (assigning bindings) goals left → All (ShapedGoalOver kinds p.outer) goals →
      All (ShapedGoalOver kinds p.target) left
  left_keep_shape H kinds p leaves_none all = All-nil (ShapedGoalOver kinds p.target)
  left_keep_shape H kinds p (goal_dropped {g = g} {rest = rest} u e q) all = left_keep_shape H kinds p q (All-tail (ShapedGoalOver kinds p.outer) g rest all)
  left_keep_shape H kinds p (goal_stays {g = g} {h = h} {rest = rest} {left = left} e here q) all =
      All-cons (ShapedGoalOver kinds p.target) h left (one_keeps_shape H kinds p g h (All-head (ShapedGoalOver kinds p.outer) g rest all) here)
      (left_keep_shape H kinds p q (All-tail (ShapedGoalOver kinds p.outer) g rest all))

  pub both_keep_shape : (xs ys ls ms : List LfGoal) → Leaves (assigning bindings) xs ls → Leaves (assigning bindings) ys ms → (p : Instantiates bindings (GoalsAreShaped (xs ++ ys))) →
      All (ShapedGoalOver p.shaped.0 p.target) (ls ++ ms)
  both_keep_shape xs ys ls ms first last p =
      let H = GoalsAreShaped (xs ++ ys) in
      let kinds = p.shaped.0 in
      All-append (ShapedGoalOver kinds p.target) ls ms
      (left_keep_shape H kinds p first (All-first (ShapedGoalOver kinds p.outer) xs ys p.shaped.1))
      (left_keep_shape H kinds p last (All-last (ShapedGoalOver kinds p.outer) xs ys p.shaped.1))
