-- The goals after an application, one after another.
use Rattle.std.proofs.Common.{◌≡◌, ℕ, ◌+◌, ◌<◌, ◌≤◌, Some, List, [], ◌∷◌, ◌++◌, length, get_or, take, take_all, map, All, sym, ap, ap₂, ◌∙◌, append_assoc, append-nil}
use Rattle.std.specs.Prelude.{is_some, if◌then◌else◌}
use Rattle.std.proofs.lemmas.List.{map-append}
use Rattle.std.proofs.lemmas.List.Elements.{All-weaker}
use Rattle.lf_definitions.specs.Syntax.{LfTerm}
use Rattle.lf_definitions.specs.ShapedGoals.{ShapedGoal}
use Rattle.lf_definitions.specs.Typing.{LfGoal}
use Rattle.lf_definitions.specs.Signatures.{LfSignature}
use Rattle.lf_definitions.specs.GoalLists.{LfGoals, all_goals}
use Rattle.lf_definitions.specs.Instantiation.{Assignment}
use Rattle.lf_terms.specs.declared.goal.Goal.{Goal}
use Rattle.lf_terms.specs.Targets.{goal_of}
use Rattle.lf_terms.proofs.ShapeLists.{take_read}
use Rattle.goal_lists.proofs.Leaving.{All-parts}
use Rattle.lf_functions.specs.Instances.{instance_of_goal}
use Rattle.applications.specs.Applications.{goals_left}
use Rattle.alternatives.specs.ListsAfter.{with_new, list_after}
use Rattle.alternatives.specs.Taking.{MayBeTaken}
use Rattle.meta_goals.specs.Bindings.{assigning}
use Rattle.meta_goals.specs.Laws.{HaveShapesOf}
use Rattle.build_shared.specs.declared.app.App.{App}
use Rattle.build_shared.specs.Remaining.{CanLeave}
use Rattle.build_shared.specs.Seen.{seen_application}
use Rattle.build_shared.proofs.InstancesAmong.{can_leave}
use Rattle.build_shared.proofs.FreshParts.{goals_left-append}

module _ (goals : List LfGoal) (σ : Assignment) where
  -- an assigned goal adds nothing
  pub none_left : (g : LfGoal) (u : LfTerm) (old : List LfGoal) → σ g.id ≡ Some u → old ≡ old ++ goals_left goals σ (g ∷ [])
  none_left g u old e = sym (append-nil old) ∙ ap (λ l. old ++ l) (sym (ap (λ o. if is_some o then [] else instance_of_goal goals σ g ∷ []) e))

  -- one goal more
  pub left_next : (xs : List Goal) (i : ℕ) (x : Goal) (old before new : List LfGoal) → i < length xs → x ≡ get_or xs i x → before ≡ old ++ goals_left goals σ (map goal_of (take i xs)) →
      new ≡ before ++ goals_left goals σ (goal_of x ∷ []) → new ≡ old ++ goals_left goals σ (map goal_of (take (i + 1) xs))
  left_next xs i x old before new within is so_far made =
      let first = map goal_of (take i xs) in
      let read : map goal_of (take (i + 1) xs) ≡ first ++ goal_of x ∷ [] = ap (map goal_of) (take_read xs i x within is) ∙ map-append goal_of (take i xs) (x ∷ []) in
      made ∙ ap (λ l. l ++ goals_left goals σ (goal_of x ∷ [])) so_far ∙ append_assoc old (goals_left goals σ first) (goals_left goals σ (goal_of x ∷ []))
      ∙ ap (λ l. old ++ l) (sym (goals_left-append goals σ first (goal_of x ∷ [])) ∙ ap (goals_left goals σ) (sym read))

  pub left_in_all : (xs : List Goal) (i : ℕ) (some old left : List LfGoal) → length xs ≤ i → map goal_of xs ≡ some → left ≡ old ++ goals_left goals σ (map goal_of (take i xs)) → left ≡ old ++ goals_left goals σ some
  left_in_all xs i some old left end are so_far = so_far ∙ ap (λ l. old ++ goals_left goals σ l) (ap (map goal_of) (take_all i xs end) ∙ are)

module _ (sig : LfSignature) (list : LfGoals) (app : App) (may : MayBeTaken sig list (seen_application app)) (shapes : HaveShapesOf (all_goals (with_new list (seen_application app))) app.assign) where
  -- all goals before the application, and its new ones
  abbrev pub Whole : List LfGoal
  Whole = all_goals (with_new list (seen_application app))

  parts : All (CanLeave Whole app.assign) (app.proofs ++ list.proofs) × All (CanLeave Whole app.assign) (list.witnesses ++ app.witnesses)
  parts =
      All-parts (CanLeave Whole app.assign) (app.proofs ++ list.proofs) (list.witnesses ++ app.witnesses)
      (All-weaker (ShapedGoal sig Whole) (CanLeave Whole app.assign) (λ g shaped. can_leave sig Whole (all_goals (list_after list (seen_application app))) app.assign may.closed may.goes shapes g shaped) Whole may.shaped.1)

  pub proofs_can_leave : All (CanLeave Whole app.assign) app.proofs × All (CanLeave Whole app.assign) list.proofs
  proofs_can_leave = All-parts (CanLeave Whole app.assign) app.proofs list.proofs parts.0

  pub witnesses_can_leave : All (CanLeave Whole app.assign) list.witnesses × All (CanLeave Whole app.assign) app.witnesses
  witnesses_can_leave = All-parts (CanLeave Whole app.assign) list.witnesses app.witnesses parts.1

-- one list after another, from nothing
both_left : (goals : List LfGoal) (σ : Assignment) (xs ys none some both : List LfGoal) → none ≡ [] → some ≡ none ++ goals_left goals σ xs → both ≡ some ++ goals_left goals σ ys → both ≡ goals_left goals σ (xs ++ ys)
both_left goals σ xs ys none some both empty first second =
    second ∙ ap (λ l. l ++ goals_left goals σ ys) (first ∙ ap (λ l. l ++ goals_left goals σ xs) empty) ∙ sym (goals_left-append goals σ xs ys)

module _ (list : LfGoals) (app : App) where
  abbrev Everything : List LfGoal
  Everything = all_goals (with_new list (seen_application app))

  abbrev left : List LfGoal → List LfGoal
  left some = goals_left Everything (assigning app.assign) some

  abbrev made : List LfGoal → List LfGoal → LfGoals
  made proofs witnesses = record { proofs = proofs; witnesses = witnesses }

  pub advanced : (no_proofs some_proofs proofs no_witnesses some_witnesses witnesses : List LfGoal) →
      no_proofs ≡ [] → some_proofs ≡ no_proofs ++ left app.proofs → proofs ≡ some_proofs ++ left list.proofs →
      no_witnesses ≡ [] → some_witnesses ≡ no_witnesses ++ left list.witnesses → witnesses ≡ some_witnesses ++ left app.witnesses → made proofs witnesses ≡ list_after list (seen_application app)
  unfolding list_after
  advanced no_proofs some_proofs proofs no_witnesses some_witnesses witnesses p1 p2 p3 w1 w2 w3 =
      ap₂ made (both_left Everything (assigning app.assign) app.proofs list.proofs no_proofs some_proofs proofs p1 p2 p3)
      (both_left Everything (assigning app.assign) list.witnesses app.witnesses no_witnesses some_witnesses witnesses w1 w2 w3)
