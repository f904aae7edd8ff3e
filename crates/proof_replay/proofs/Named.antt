-- The alternative of a step is the one that its labels and its last step name in the normal form.
use Rattle.std.proofs.Common.{◌≡◌, Bool, true, false, cond, Option, Some, None, option_map, List, [], ◌∷◌, map, All, find, refl, sym, ap, ◌∙◌, subst}
use Rattle.std.specs.Prelude.{◌&&◌, if◌then◌else◌}
use Rattle.std.proofs.lemmas.List.Elements.{All-nil, All-cons, All-head, All-tail, All-map, All-weaker}
use Rattle.lf_definitions.specs.ShapedGoals.{ShapedGoals}
use Rattle.lf_definitions.specs.Signatures.{LfSignature}
use Rattle.lf_definitions.specs.GoalLists.{LfGoals, all_goals, next_id}
use Rattle.lf_definitions.proofs.Options.{Some-Some}
use Rattle.applications.specs.Methods.{LfLabel}
use Rattle.applications.specs.Applications.{LfApplication}
use Rattle.alternatives.specs.Rules.{LfRule}
use Rattle.alternatives.specs.NormalForms.{LfNormal, normal_form}
use Rattle.alternatives.specs.Alternatives.{LfLast, done, safely, LfAlternative, taken, first_safe, committed_or_chosen, as_done, alternatives_from}
use Rattle.alternatives.specs.Steps.{IsStep}
use Rattle.alternatives.specs.Reaching.{MayBeExpanded, IsReached}
use Rattle.taken_alternatives.proofs.Lists.{All-find}
use Rattle.taken_alternatives.proofs.Laws.{normal_forms_are_reached}
use Rattle.derivations.specs.Derivations.{alternatives_of}
use Rattle.derivations.specs.Replays.{LfStep, same_labels, same_last, is_step_of}
use Rattle.meta_goals.specs.Bindings.{LfBinding, assigned_of}
use Rattle.goal_book.specs.GoalBooks.{LfBook, rules_in}
use Rattle.goal_book.specs.Choices.{LfChoice, choices}
use Rattle.goal_expand.specs.Reaching.{IsNormal}
use Rattle.goal_expand.proofs.NextSteps.{safe_is_step, choices_are_steps}
use Rattle.goal_expand.proofs.Choices.{choices_are_taken, with_parts, from_closed, from_open, alternatives_are}
use Rattle.proof_replay.specs.Naming.{left_by, left_after, named_of, named_in}
use Rattle.proof_replay.specs.Turns.{MayBeFollowed}
use Rattle.proof_replay.proofs.Alternatives.{may_be_expanded}

-- lists in which nothing passes, and lists of images
find_none : {X : Type 0} (test : X → Bool) (xs : List X) → All (λ x. test x ≡ false) xs → find test xs ≡ None
find_none test [] all = refl
find_none test (x ∷ rest) all =
    ap (λ b. cond b (Some x) (find test rest)) (All-head (λ y. test y ≡ false) x rest all) ∙ find_none test rest (All-tail (λ y. test y ≡ false) x rest all)

find_image : {X Y : Type 0} (f : X → Y) (test : Y → Bool) (xs : List X) → find test (map f xs) ≡ option_map f (find (λ x. test (f x)) xs)
find_image f test [] = refl
find_image f test (x ∷ rest) = step (test (f x)) (find_image f test rest)
  where
    step : (b : Bool) → find test (map f rest) ≡ option_map f (find (λ y. test (f y)) rest) → cond b (Some (f x)) (find test (map f rest)) ≡ option_map f (cond b (Some x) (find (λ y. test (f y)) rest))
    step true later = refl
    step false later = later

map_twice : {X Y Z : Type 0} (f : X → Y) (g : Y → Z) (h : X → Z) → ((x : X) → g (f x) ≡ h x) → (o : Option X) → option_map g (option_map f o) ≡ option_map h o
map_twice f g h same None = refl
map_twice f g h same (Some x) = ap Some (same x)

-- Every alternative of a normal form has its labels.
module _ (sig : LfSignature) (rules : List LfRule) (list : LfGoals) (normal : LfNormal) where
  chosen_have_labels : (o : Option LfApplication) → All (λ (x : LfAlternative). x.norm ≡ normal.labels) (committed_or_chosen sig rules list normal o)
  chosen_have_labels (Some a) =
      All-cons (λ (x : LfAlternative). x.norm ≡ normal.labels) (taken list normal (safely a.label) 100 a) [] refl (All-nil (λ (x : LfAlternative). x.norm ≡ normal.labels))
  chosen_have_labels None =
      let image : LfChoice → LfAlternative = λ c. taken list normal c.last c.percent c.application in
      subst (All (λ (x : LfAlternative). x.norm ≡ normal.labels)) (sym (choices_are_taken sig rules list normal))
      (All-map (λ (x : LfAlternative). x.norm ≡ normal.labels) image (choices sig rules normal.fresh normal.goals) (λ k d less. refl))

  all_have_labels : All (λ (x : LfAlternative). x.norm ≡ normal.labels) (alternatives_from sig rules list normal)
  all_have_labels = step normal.closed
    where
      step : (b : Bool) → All (λ (x : LfAlternative). x.norm ≡ normal.labels) (if b then as_done normal ∷ [] else committed_or_chosen sig rules list normal (first_safe sig rules normal.fresh normal.goals))
      step true = All-cons (λ (x : LfAlternative). x.norm ≡ normal.labels) (as_done normal) [] refl (All-nil (λ (x : LfAlternative). x.norm ≡ normal.labels))
      step false = chosen_have_labels (first_safe sig rules normal.fresh normal.goals)

  -- Where the step has others, none is found.
  pub other_labels : (step : LfStep) → same_labels step.norm normal.labels ≡ false → find (is_step_of step) (alternatives_from sig rules list normal) ≡ None
  other_labels step differ =
      let xs = alternatives_from sig rules list normal in
      find_none (is_step_of step) xs
      (All-weaker (λ (x : LfAlternative). x.norm ≡ normal.labels) (λ (x : LfAlternative). is_step_of step x ≡ false)
      (λ x norm. ap (λ ls. same_labels step.norm ls && same_last step.last x.last) norm ∙ ap (λ b. b && same_last step.last x.last) differ) xs all_have_labels)

  -- Where it has the same, its last step tells.
  module _ (step : LfStep) (same : same_labels step.norm normal.labels ≡ true) where
    tells : (last : LfLast) → (same_labels step.norm normal.labels && same_last step.last last) ≡ same_last step.last last
    tells last = ap (λ b. b && same_last step.last last) same

    pub one_of : (x : LfAlternative) → x.norm ≡ normal.labels → find (is_step_of step) (x ∷ []) ≡ (if same_last step.last x.last then Some x else None)
    one_of x norm = ap (λ b. cond b (Some x) None) (ap (λ ls. same_labels step.norm ls && same_last step.last x.last) norm ∙ tells x.last) ∙ as_if (same_last step.last x.last)
      where
        as_if : (b : Bool) → cond b (Some x) None ≡ (if b then Some x else None)
        as_if true = refl
        as_if false = refl

    left_if : (b : Bool) (x : LfAlternative) → option_map left_by (if b then Some x else None) ≡ (if b then Some (left_by x) else None)
    left_if true x = refl
    left_if false x = refl

    after_if : (b : Bool) (a : LfApplication) → (if b then Some (left_after list normal.goals normal.build a) else None) ≡ option_map (left_after list normal.goals normal.build) (if b then Some a else None)
    after_if true a = refl
    after_if false a = refl

    pub named_is_left : (o : Option LfApplication) →
        option_map left_by (find (is_step_of step) (committed_or_chosen sig rules list normal o))
        ≡ option_map (left_after list normal.goals normal.build) (named_of step.last o (choices sig rules normal.fresh normal.goals))
    named_is_left (Some a) =
        let x = taken list normal (safely a.label) 100 a in
        ap (option_map left_by) (one_of x refl) ∙ left_if (same_last step.last (safely a.label)) x ∙ after_if (same_last step.last (safely a.label)) a
    named_is_left None =
        let cs = choices sig rules normal.fresh normal.goals in
        let image : LfChoice → LfAlternative = λ c. taken list normal c.last c.percent c.application in
        let only : LfChoice → Bool = λ c. same_last step.last c.last in
        ap (λ xs. option_map left_by (find (is_step_of step) xs)) (choices_are_taken sig rules list normal)
        ∙ ap (option_map left_by) (find_image image (is_step_of step) cs)
        ∙ ap (λ (b : Bool). option_map left_by (option_map image (find (λ c. b && same_last step.last c.last) cs))) same
        ∙ map_twice image left_by (λ c. left_after list normal.goals normal.build c.application) (λ c. refl) (find only cs)
        ∙ sym (map_twice (λ (c : LfChoice). c.application) (left_after list normal.goals normal.build) (λ c. left_after list normal.goals normal.build c.application) (λ c. refl) (find only cs))

-- An application that is named is a step.
module _ (sig : LfSignature) (rules : List LfRule) (goals : LfGoals) (may : MayBeExpanded sig rules (next_id goals) goals) where
  chosen_step : (o : Option LfChoice) (x : LfApplication) → ((c : LfChoice) → o ≡ Some c → IsStep sig (next_id goals) goals c.application) → option_map (λ (c : LfChoice). c.application) o ≡ Some x → IsStep sig (next_id goals) goals x
  chosen_step None x each e = absurd cc
  chosen_step (Some c) x each e = subst (IsStep sig (next_id goals) goals) (Some-Some e) (each c refl)

  safe_step : (b : Bool) (a x : LfApplication) → IsStep sig (next_id goals) goals a → (if b then Some a else None) ≡ Some x → IsStep sig (next_id goals) goals x
  safe_step true a x step e = subst (IsStep sig (next_id goals) goals) (Some-Some e) step
  safe_step false a x step e = absurd cc

  named_step : (last : LfLast) (o : Option LfApplication) → first_safe sig rules (next_id goals) goals ≡ o → (x : LfApplication) → named_of last o (choices sig rules (next_id goals) goals) ≡ Some x → IsStep sig (next_id goals) goals x
  named_step last (Some a) is x e = safe_step (same_last last (safely a.label)) a x (safe_is_step sig rules (next_id goals) goals may a is) e
  named_step last None is x e =
      let cs = choices sig rules (next_id goals) goals in
      chosen_step (find (λ (c : LfChoice). same_last last c.last) cs) x
      (λ c found. All-find (λ (d : LfChoice). IsStep sig (next_id goals) goals d.application) (λ (d : LfChoice). same_last last d.last) cs (choices_are_steps sig rules (next_id goals) goals may) c found) e

  pub named_is_step : (last : LfLast) (x : LfApplication) → named_in sig rules goals last ≡ Some x → IsStep sig (next_id goals) goals x
  named_is_step last x e = named_step last (first_safe sig rules (next_id goals) goals) refl x e

-- What is left by the alternative of a step, from the parts of the normal form.
module _ (b : LfBook) (may : MayBeFollowed b) (list : LfGoals) (shaped : ShapedGoals b.sig (all_goals list)) (labels : List LfLabel) (closed : Bool) (goals : LfGoals) (build : List LfBinding)
    (is : IsNormal (normal_form b.sig (rules_in b) (next_id list) list) labels closed goals build) (step : LfStep) where
  abbrev Normal : LfNormal
  Normal = normal_form b.sig (rules_in b) (next_id list) list

  abbrev FoundOne : Option LfAlternative
  FoundOne = find (is_step_of step) (alternatives_of b.sig (rules_in b) list)

  found_from : FoundOne ≡ find (is_step_of step) (alternatives_from b.sig (rules_in b) list Normal)
  found_from = ap (find (is_step_of step)) (alternatives_are b.sig (rules_in b) (next_id list) list)

  pub reached : IsReached b.sig (next_id list) list Normal
  reached = (normal_forms_are_reached b.sig (rules_in b) (next_id list) list (may_be_expanded b may list shaped)).1

  pub none_of_others : same_labels step.norm labels ≡ false → None ≡ option_map left_by FoundOne
  none_of_others differ =
      sym (ap (option_map left_by) (found_from ∙ other_labels b.sig (rules_in b) list Normal step (ap (same_labels step.norm) (sym is.labels_are) ∙ differ)))

  pub done_or_none : same_labels step.norm labels ≡ true → closed ≡ true → (if same_last step.last done then Some (goals, map assigned_of build) else None) ≡ option_map left_by FoundOne
  done_or_none same e =
      let normal = with_parts labels closed goals (map assigned_of build) (next_id goals) in
      let x : LfAlternative = record { norm = labels; last = done; percent = 100; goals = goals; build = map assigned_of build } in
      sym (ap (option_map left_by)
      (found_from ∙ ap (find (is_step_of step)) (from_closed b.sig (rules_in b) list Normal labels closed goals build is e) ∙ one_of b.sig (rules_in b) list normal step same x refl)
      ∙ left_if b.sig (rules_in b) list normal step same (same_last step.last done) x)

  fresh_is : closed ≡ false → next_id goals ≡ Normal.fresh
  fresh_is e = ap next_id is.goals_are ∙ sym (reached.next (sym is.closed_is ∙ e) refl)

  pub named_or_none : same_labels step.norm labels ≡ true → closed ≡ false → (o : Option LfApplication) → o ≡ named_in b.sig (rules_in b) goals step.last →
      option_map (left_after list goals (map assigned_of build)) o ≡ option_map left_by FoundOne
  named_or_none same e o named =
      let normal = with_parts labels closed goals (map assigned_of build) (next_id goals) in
      ap (option_map (left_after list goals (map assigned_of build))) named
      ∙ sym (ap (option_map left_by) (found_from ∙ ap (find (is_step_of step)) (from_open b.sig (rules_in b) list Normal labels closed goals build is e (next_id goals) (fresh_is e)))
      ∙ named_is_left b.sig (rules_in b) list normal step same (first_safe b.sig (rules_in b) (next_id goals) goals))
