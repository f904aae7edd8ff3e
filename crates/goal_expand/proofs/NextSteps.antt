-- Applications that are found are steps, and their entries have the shapes of the contexts of all goals.
use Rattle.std.proofs.Common.{◌≡◌, ◌∙◌, ℕ, Bool, Some, List, [], ◌∷◌, ◌++◌, map, All, sym, ap, subst}
use Rattle.std.specs.Prelude.{filter, find, flat_map, Contains}
use Rattle.std.proofs.lemmas.List.Elements.{All-nil, All-cons, All-head, All-tail, All-append, All-weaker, All-map, All-filter, All-contains, All-contains_itself}
use Rattle.lf_definitions.specs.Syntax.{shapes_of_types}
use Rattle.lf_definitions.specs.Typing.{LfGoal}
use Rattle.lf_definitions.specs.Signatures.{LfSignature}
use Rattle.lf_definitions.specs.GoalLists.{LfGoals, all_goals, ids}
use Rattle.applications.specs.Applications.{LfApplication}
use Rattle.application_laws.proofs.Members.{in_contained}
use Rattle.meta_goals.specs.Bindings.{LfBinding, assigned_of}
use Rattle.meta_goals.specs.Laws.{HaveShapesOf}
use Rattle.alternatives.specs.Rules.{LfRule, is_normalising, is_safe, found_by}
use Rattle.alternatives.specs.ListsAfter.{with_new}
use Rattle.alternatives.specs.NormalForms.{is_lawful, first_lawful}
use Rattle.alternatives.specs.Alternatives.{may_be_committed, first_safe, ranked}
use Rattle.alternatives.specs.Steps.{IsStep}
use Rattle.alternatives.specs.Reaching.{MayBeExpanded}
use Rattle.step_laws.proofs.Laws.{applications_are_steps}
use Rattle.step_laws.proofs.Found.{IsSameByNumber, same_goal}
use Rattle.build_laws.proofs.Entries.{goal_of_number}
use Rattle.taken_alternatives.proofs.Lists.{All-find, All-flat_map, All-ranked}
use Rattle.taken_alternatives.proofs.NormalForms.{all_steps}
use Rattle.goal_book.specs.Choices.{LfChoice, choice_of, choices_by, may_be_chosen, choices}

module _ (sig : LfSignature) (rules : List LfRule) (n : ℕ) (list : LfGoals) (may : MayBeExpanded sig rules n list) where
  abbrev AreSteps : LfRule → Type 0
  AreSteps rule = All (IsStep sig n list) (found_by sig n list rule)

  all_found : All AreSteps rules
  all_found = all_steps applications_are_steps sig rules n list may

  found_is_step : (serves : LfApplication → Bool) (is_tried : LfRule → Bool) (a : LfApplication) → find serves (flat_map (found_by sig n list) (filter is_tried rules)) ≡ Some a → IsStep sig n list a
  found_is_step serves is_tried a e =
      All-find (IsStep sig n list) serves (flat_map (found_by sig n list) (filter is_tried rules))
      (All-flat_map (IsStep sig n list) (found_by sig n list) (filter is_tried rules) (All-filter is_tried AreSteps rules all_found)) a e

  pub lawful_is_step : (a : LfApplication) → first_lawful sig rules n list ≡ Some a → IsStep sig n list a
  lawful_is_step a e = found_is_step is_lawful (λ rule. is_normalising rule.phase) a e

  pub safe_is_step : (a : LfApplication) → first_safe sig rules n list ≡ Some a → IsStep sig n list a
  safe_is_step a e = found_is_step may_be_committed (λ rule. is_safe rule.phase) a e

  abbrev IsChosenStep : LfChoice → Type 0
  IsChosenStep c = IsStep sig n list c.application

  pub choices_are_steps : All (λ c. IsStep sig n list c.application) (choices sig rules n list)
  choices_are_steps =
      let others = filter may_be_chosen rules in
      All-flat_map IsChosenStep (choices_by sig n list) (ranked others)
      (All-weaker AreSteps (λ rule. All IsChosenStep (choices_by sig n list rule)) (λ rule all. All-map IsChosenStep (choice_of rule.phase) (found_by sig n list rule) all) (ranked others)
      (All-ranked AreSteps others (All-filter may_be_chosen AreSteps rules all_found)))

-- What is true of all of two lists is true of each.
All-front : {X : Type 0} (P : X → Type 0) (xs ys : List X) → All P (xs ++ ys) → All P xs
All-front P [] ys all = All-nil P
All-front P (x ∷ xs) ys all = All-cons P x xs (All-head P x (xs ++ ys) all) (All-front P xs ys (All-tail P x (xs ++ ys) all))

All-back : {X : Type 0} (P : X → Type 0) (xs ys : List X) → All P (xs ++ ys) → All P ys
All-back P [] ys all = all
All-back P (x ∷ xs) ys all = All-back P xs ys (All-tail P x (xs ++ ys) all)

module _ (sig : LfSignature) (n : ℕ) (list : LfGoals) (a : LfApplication) (step : IsStep sig n list a) where
  abbrev With : List LfGoal
  With = all_goals (with_new list a)

  -- The goals are among those with the new ones.
  olds_are_among : All (Contains With) (all_goals list)
  olds_are_among =
      let itself = All-contains_itself With in
      let front = All-front (Contains With) (a.proofs ++ list.proofs) (list.witnesses ++ a.witnesses) itself in
      let back = All-back (Contains With) (a.proofs ++ list.proofs) (list.witnesses ++ a.witnesses) itself in
      All-append (Contains With) list.proofs list.witnesses (All-back (Contains With) a.proofs list.proofs front) (All-front (Contains With) list.witnesses a.witnesses back)

  abbrev HasShapesIn : List LfGoal → LfBinding → Type 0
  HasShapesIn goals b = All (λ g. g.id ≡ b.number → b.shapes ≡ shapes_of_types g.context) goals

  -- An entry of a goal of the list is of no new one.
  entry_has_shapes : (b : LfBinding) → Contains (ids (all_goals list)) b.number → HasShapesIn (all_goals list) b → HasShapesIn With b
  entry_has_shapes b key shapes =
      let g = goal_of_number (all_goals list) b.number (in_contained b.number (ids (all_goals list)) key) in
      let there : Contains With g.0 = All-contains (Contains With) (all_goals list) g.0 olds_are_among g.1 in
      let own : b.shapes ≡ shapes_of_types (g.0).context = All-contains (λ h. h.id ≡ b.number → b.shapes ≡ shapes_of_types h.context) (all_goals list) g.0 shapes g.1 g.2 in
      All-weaker (λ h. IsSameByNumber h g.0) (λ h. h.id ≡ b.number → b.shapes ≡ shapes_of_types h.context)
      (λ h same e. own ∙ ap (λ (x : LfGoal). shapes_of_types x.context) (sym (same (e ∙ sym g.2)))) With
      (same_goal With step.may_be_taken.shaped.0 g.0 there)

  pub shapes_with_new : (bindings : List LfBinding) → map assigned_of bindings ≡ a.assigned → HaveShapesOf (all_goals list) bindings → HaveShapesOf With bindings
  shapes_with_new bindings e shapes = each bindings (subst (All (λ f. Contains (ids (all_goals list)) f.assigned_goal)) (sym e) step.takes.keys) shapes
    where
      each : (bs : List LfBinding) → All (λ f. Contains (ids (all_goals list)) f.assigned_goal) (map assigned_of bs) → HaveShapesOf (all_goals list) bs → HaveShapesOf With bs
      each [] keys all = All-nil (HasShapesIn With)
      each (b ∷ rest) keys all =
          All-cons (HasShapesIn With) b rest
          (entry_has_shapes b (All-head (λ f. Contains (ids (all_goals list)) f.assigned_goal) (assigned_of b) (map assigned_of rest) keys) (All-head (HasShapesIn (all_goals list)) b rest all))
          (each rest (All-tail (λ f. Contains (ids (all_goals list)) f.assigned_goal) (assigned_of b) (map assigned_of rest) keys) (All-tail (HasShapesIn (all_goals list)) b rest all))
