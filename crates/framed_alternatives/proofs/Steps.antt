-- One application to a list that begins apart, and to its goals inside.
use Rattle.std.proofs.Common.{◌≡◌, ℕ, ◌<◌, ◌≤◌, Bool, true, false, Option, Some, None, List, [], ◌∷◌, ◌++◌, All, append-nil, refl, sym, ap, ap₂, ◌∙◌, subst}
use Rattle.std.specs.Prelude.{not, slice_index_or, Contains}
use Rattle.std.proofs.lemmas.List.Elements.{All-weaker}
use Rattle.head_laws.proofs.Numbers.{Contains-here}
use Rattle.lf_definitions.specs.Syntax.{LfTerm}
use Rattle.lf_definitions.specs.ShapedGoals.{scope_in, ShapedGoal, ShapedGoals}
use Rattle.lf_definitions.specs.Typing.{LfGoal}
use Rattle.lf_definitions.specs.Signatures.{LfSignature}
use Rattle.lf_definitions.specs.GoalLists.{LfGoals, all_goals, ids, first_of}
use Rattle.lf_definitions.specs.Instantiation.{Assignment, assignment_of}
use Rattle.lf_definitions.proofs.Options.{Some-Some}
use Rattle.goal_lists.specs.Laws.{GoesToGoals}
use Rattle.goal_lists.proofs.Leaving.{All-parts}
use Rattle.unifiers.proofs.Entries.{found_entry}
use Rattle.lf_functions.specs.Instances.{instance_of_goal}
use Rattle.lf_functions.specs.MentionLaws.{GoesFromGoals}
use Rattle.lf_functions.proofs.InstanceLaws.{unassigned_instances_are_the_same}
use Rattle.lf_functions.proofs.MentionLaws.{instances_are_among_any_goals}
use Rattle.applications.specs.Applications.{LfApplication, goals_left, at_first}
use Rattle.application_laws.specs.Conditions.{TakesAtoms, HasItsSupport, new_goals, inside, goals_inside}
use Rattle.application_laws.proofs.Inside.{All-inside}
use Rattle.application_laws.proofs.Support.{applications_have_their_support}
use Rattle.application_laws.proofs.Framed.{applications_are_framed}
use Rattle.alternatives.specs.Rules.{LfRule, found_by}
use Rattle.alternatives.specs.ListsAfter.{with_new, left_in, list_after}
use Rattle.alternatives.specs.Steps.{IsStep}
use Rattle.clusters.specs.Links.{outside_of}
use Rattle.step_laws.specs.Laws.{ApplicationsAreSteps}
use Rattle.framed_alternatives.specs.Laws.{with_fresh, BeginsApart, StaysApart, ListsAfterAreFramed}
use Rattle.framed_alternatives.proofs.Insides.{goals_of, number_passes, inside-append, all-inside, passes_inside, old_goals, old_goals_outside, fresh_goals, fresh_goals_outside, inside-left, left-stays, left-same}
use Rattle.framed_alternatives.proofs.Apart.{begins_inside, may_be_expanded_inside, stays_apart}

first_is_one : (goals : List LfGoal) (g : LfGoal) → first_of goals ≡ Some g → Contains goals g
first_is_one [] g e = absurd cc
first_is_one (h ∷ rest) g e = subst (Contains (h ∷ rest)) (Some-Some e) (Contains-here h rest)

pub from_goals : (sig : LfSignature) (goals others : List LfGoal) (σ : Assignment) → GoesToGoals sig goals others σ → GoesFromGoals sig goals [] σ
from_goals sig goals others σ goes = (goes.0, scope_in sig others [], goes.1)

-- What is left of the goals inside is what is left inside.
module _ (sig : LfSignature) (within : ℕ → Bool) (σ : Assignment) (whole part : LfGoals) (is_part : part ≡ goals_inside within whole) (shaped : ShapedGoals sig (all_goals whole))
    (shaped_part : ShapedGoals sig (all_goals part)) (goes : GoesFromGoals sig (all_goals whole) [] σ) (goes_part : GoesFromGoals sig (all_goals part) [] σ) where
  same_left : (xs : List LfGoal) → All (ShapedGoal sig (all_goals whole)) xs → All (ShapedGoal sig (all_goals part)) xs → goals_left (all_goals whole) σ xs ≡ goals_left (all_goals part) σ xs
  same_left xs here there =
      left-same (all_goals part) σ (all_goals whole) xs
      (λ k d less. (instances_are_among_any_goals sig sig (all_goals part) (all_goals whole) [] [] σ goes_part goes).5 (slice_index_or xs k d) (there k d less) (here k d less))

  left_of_part : (xs ys : List LfGoal) → ys ≡ inside within xs → All (ShapedGoal sig (all_goals whole)) xs → All (ShapedGoal sig (all_goals part)) ys →
      inside within (goals_left (all_goals whole) σ xs) ≡ goals_left (all_goals part) σ ys
  left_of_part xs ys is here there =
      inside-left (all_goals whole) σ within xs ∙ ap (goals_left (all_goals whole) σ) (sym is)
      ∙ same_left ys
      (subst (All (ShapedGoal sig (all_goals whole))) (sym is)
      (All-inside within (ShapedGoal sig (all_goals whole)) xs (All-weaker (ShapedGoal sig (all_goals whole)) (λ h. within h.id ≡ true → ShapedGoal sig (all_goals whole) h) (λ h p in_it. p) xs here)))
      there

  left_inside : goals_inside within (left_in whole σ) ≡ left_in part σ
  left_inside =
      let here = All-parts (ShapedGoal sig (all_goals whole)) whole.proofs whole.witnesses shaped.1 in
      let there = All-parts (ShapedGoal sig (all_goals part)) part.proofs part.witnesses shaped_part.1 in
      ap₂ goals_of (left_of_part whole.proofs part.proofs (ap (λ x. x.proofs) is_part) here.0 there.0) (left_of_part whole.witnesses part.witnesses (ap (λ x. x.witnesses) is_part) here.1 there.1)

-- An application is a step from the list and from its goals inside, and its new goals have new numbers.
pub record IsStepInside (sig : LfSignature) (n : ℕ) (within : ℕ → Bool) (list : LfGoals) (a : LfApplication) : Type 0 where
  pub on_all : IsStep sig n list a
  pub on_inside : IsStep sig n (goals_inside within list) a
  pub new_numbers : All (λ h. n ≤ h.id) (new_goals a)

module _ (sig : LfSignature) (rules : List LfRule) (n : ℕ) (within : ℕ → Bool) (list : LfGoals) (begins : BeginsApart sig rules n within list) where
  pub same_found : (rule : LfRule) → TakesAtoms sig rule.method → found_by sig n (goals_inside within list) rule ≡ found_by sig n list rule
  same_found rule takes =
      (applications_are_framed sig begins.may_be_expanded.signature n within list (begins_inside sig rules n within list begins) rule.number rule.method takes).1

  have_support : (rule : LfRule) → TakesAtoms sig rule.method → All (HasItsSupport (all_goals list) n begins.first_is_inside.0) (found_by sig n list rule)
  have_support rule takes =
      let may = begins.may_be_expanded in
      let first = begins.first_is_inside in
      subst (λ o. All (HasItsSupport (all_goals list) n first.0) (at_first sig rule.number rule.method n (all_goals list) o)) (sym first.1)
      (applications_have_their_support sig may.signature (all_goals list) may.goals n may.below first.0 (first_is_one (all_goals list) first.0 first.1) rule.number rule.method takes)

  pub are_steps_inside : ApplicationsAreSteps → (rule : LfRule) → TakesAtoms sig rule.method → All (IsStepInside sig n within list) (found_by sig n list rule)
  are_steps_inside steps rule takes =
      let may = begins.may_be_expanded in
      let part = may_be_expanded_inside sig rules n within list begins in
      let on_inside = subst (All (IsStep sig n (goals_inside within list))) (same_found rule takes) (steps sig may.signature (goals_inside within list) part.goals n part.below rule takes) in
      λ k d less. record {
        on_all = steps sig may.signature list may.goals n may.below rule takes k d less;
        on_inside = on_inside k d less;
        new_numbers = (have_support rule takes k d less).new_numbers;
      }

  module _ (a : LfApplication) (step : IsStepInside sig n within list a) where
    numbers_new : All (λ h. n ≤ h.id) a.proofs × All (λ h. n ≤ h.id) a.witnesses
    numbers_new = All-parts (λ h. n ≤ h.id) a.proofs a.witnesses step.new_numbers

    numbers_old : All (λ h. h.id < n) list.proofs × All (λ h. h.id < n) list.witnesses
    numbers_old = All-parts (λ h. h.id < n) list.proofs list.witnesses begins.may_be_expanded.below

    -- With the new goals, the goals inside are those inside with fresh numbers.
    with_new_inside : with_new (goals_inside within list) a ≡ goals_inside (with_fresh within n) (with_new list a)
    with_new_inside =
        sym (ap₂ goals_of
        (inside-append (with_fresh within n) a.proofs list.proofs ∙ ap₂ (λ xs ys. xs ++ ys) (fresh_goals within n a.proofs numbers_new.0) (old_goals within n list.proofs numbers_old.0))
        (inside-append (with_fresh within n) list.witnesses a.witnesses ∙ ap₂ (λ xs ys. xs ++ ys) (old_goals within n list.witnesses numbers_old.1) (fresh_goals within n a.witnesses numbers_new.1)))

    pub after_inside : goals_inside (with_fresh within n) (list_after list a) ≡ list_after (goals_inside within list) a
    unfolding list_after
    after_inside =
        let here = step.on_all.may_be_taken in
        let there = step.on_inside.may_be_taken in
        left_inside sig (with_fresh within n) (assignment_of a.assigned) (with_new list a) (with_new (goals_inside within list) a) with_new_inside here.shaped there.shaped
        (from_goals sig (all_goals (with_new list a)) (all_goals (list_after list a)) (assignment_of a.assigned) here.goes)
        (from_goals sig (all_goals (with_new (goals_inside within list) a)) (all_goals (list_after (goals_inside within list) a)) (assignment_of a.assigned) there.goes)

    keys_inside : All (λ e. within e.assigned_goal ≡ true) a.assigned
    keys_inside =
        All-weaker (λ e. Contains (ids (all_goals (goals_inside within list))) e.assigned_goal) (λ e. within e.assigned_goal ≡ true)
        (λ e has. number_passes (λ m. within m ≡ true) (all_goals (goals_inside within list)) (subst (All (λ h. within h.id ≡ true)) (sym (all-inside within list)) (passes_inside within (all_goals list))) e.assigned_goal has)
        a.assigned step.on_inside.takes.keys

    none_outside : (m : ℕ) → outside_of within m ≡ true → assignment_of a.assigned m ≡ None
    none_outside m out = each (assignment_of a.assigned m) refl
      where
        clash : within m ≡ true → ⊥
        clash is = no (sym (ap not is) ∙ out)
          where
            no : false ≡ true → ⊥
            no f = absurd cc

        each : (o : Option LfTerm) → assignment_of a.assigned m ≡ o → o ≡ None
        each None e = refl
        each (Some u) e = absurd (clash (found_entry (λ k v. within k ≡ true) a.assigned keys_inside m u e))

    -- Goals outside are not assigned, and mention nothing that is.
    abbrev Stays : LfGoal → Type 0
    Stays h = (assignment_of a.assigned h.id ≡ None) × (instance_of_goal (all_goals (with_new list a)) (assignment_of a.assigned) h ≡ h)

    stay_outside : All (λ h. outside_of within h.id ≡ true → Stays h) (all_goals list)
    stay_outside k d less out =
        let h = slice_index_or (all_goals list) k d in (
          none_outside h.id out,
          (unassigned_instances_are_the_same (all_goals (with_new list a)) (assignment_of a.assigned)).5 h (λ m o. none_outside m (begins.splits.1 k d less out m o)),
        )

    left_outside : (xs ys : List LfGoal) → inside (outside_of (with_fresh within n)) xs ≡ inside (outside_of within) ys → All (λ h. outside_of within h.id ≡ true → Stays h) ys →
        inside (outside_of (with_fresh within n)) (goals_left (all_goals (with_new list a)) (assignment_of a.assigned) xs) ≡ inside (outside_of within) ys
    left_outside xs ys same stay =
        let goals = all_goals (with_new list a) in
        let σ = assignment_of a.assigned in
        inside-left goals σ (outside_of (with_fresh within n)) xs ∙ ap (goals_left goals σ) same
        ∙ left-stays goals σ (inside (outside_of within) ys) (All-inside (outside_of within) Stays ys stay)

    pub after_outside : goals_inside (outside_of (with_fresh within n)) (list_after list a) ≡ goals_inside (outside_of within) list
    unfolding list_after
    after_outside =
        let out = outside_of (with_fresh within n) in
        let stay = All-parts (λ h. outside_of within h.id ≡ true → Stays h) list.proofs list.witnesses stay_outside in
        ap₂ goals_of
        (left_outside (a.proofs ++ list.proofs) list.proofs
        (inside-append out a.proofs list.proofs ∙ ap₂ (λ xs ys. xs ++ ys) (fresh_goals_outside within n a.proofs numbers_new.0) (old_goals_outside within n list.proofs numbers_old.0)) stay.0)
        (left_outside (list.witnesses ++ a.witnesses) list.witnesses
        (inside-append out list.witnesses a.witnesses ∙ ap₂ (λ xs ys. xs ++ ys) (old_goals_outside within n list.witnesses numbers_old.1) (fresh_goals_outside within n a.witnesses numbers_new.1)
        ∙ append-nil (inside (outside_of within) list.witnesses)) stay.1)

    pub after_stays_apart : StaysApart n within list (list_after list a)
    after_stays_apart =
        stays_apart sig rules n within list begins (list_after list a) (list_after (goals_inside within list) a) step.on_inside.takes.shaped after_inside after_outside

pub lists_after_are_framed : ApplicationsAreSteps → ListsAfterAreFramed
lists_after_are_framed steps sig rules n within list begins =
    All-weaker (λ rule. TakesAtoms sig rule.method)
    (λ rule.
    All (λ a. StaysApart n within list (list_after list a) × (goals_inside (with_fresh within n) (list_after list a) ≡ list_after (goals_inside within list) a))
    (found_by sig n list rule))
    (λ rule takes.
    All-weaker (IsStepInside sig n within list)
    (λ a. StaysApart n within list (list_after list a) × (goals_inside (with_fresh within n) (list_after list a) ≡ list_after (goals_inside within list) a))
    (λ a step. (after_stays_apart sig rules n within list begins a step, after_inside sig rules n within list begins a step))
    (found_by sig n list rule) (are_steps_inside sig rules n within list begins steps rule takes))
    rules begins.may_be_expanded.rules_take_atoms
