-- The normal form of a list that begins apart is, inside, that of the goals inside.
use Rattle.std.proofs.Common.{◌≡◌, ℕ, zero, suc, ◌<◌, ◌≤◌, Bool, true, false, Option, Some, None, List, [], ◌∷◌, ◌++◌, All, refl, sym, ap, ap₂, ◌∙◌, subst, arith}
use Rattle.std.specs.Prelude.{is_some, if◌then◌else◌, find, filter, Contains}
use Rattle.std.proofs.lemmas.List.Elements.{All-head, All-filter, All-weaker}
use Rattle.lf_definitions.specs.Syntax.{LfTerm}
use Rattle.lf_definitions.specs.Typing.{LfGoal}
use Rattle.lf_definitions.specs.Signatures.{LfSignature}
use Rattle.lf_definitions.specs.GoalLists.{LfGoals, all_goals, ids, first_of, first_goal}
use Rattle.lf_definitions.specs.Instantiation.{Assignment, LfAssigned, assignment_of}
use Rattle.goal_lists.proofs.Leaving.{All-parts}
use Rattle.unifiers.proofs.Entries.{found_entry}
use Rattle.lf_functions.specs.Instances.{instance_of_goal}
use Rattle.applications.specs.Applications.{LfApplication, goals_left}
use Rattle.application_laws.specs.Conditions.{TakesAtoms, goals_inside}
use Rattle.application_laws.proofs.Members.{instance_id}
use Rattle.alternatives.specs.Rules.{LfRule, is_normalising, found_by}
use Rattle.alternatives.specs.ListsAfter.{with_new, list_after, fresh_after, then_assigned}
use Rattle.alternatives.specs.NormalForms.{has_none, is_lawful, first_lawful, LfNormal, stopped, after_step, step_or_stop, normal_within, normal_form, most_normalising}
use Rattle.alternatives.specs.Taking.{Takes}
use Rattle.alternatives.specs.Reaching.{MayBeExpanded}
use Rattle.build_laws.proofs.Laws.{nothing_follows}
use Rattle.clusters.specs.Links.{outside_of}
use Rattle.step_laws.specs.Laws.{ApplicationsAreSteps}
use Rattle.taken_alternatives.specs.Laws.{NormalFormsAreReached}
use Rattle.framed_alternatives.specs.Laws.{with_fresh, BeginsApart, inside_normal, NormalFormsAreFramed}
use Rattle.framed_alternatives.proofs.Insides.{goals_of, fresh_inside, old_inside, fresh_twice, number_passes, all-inside, passes_inside, old_goals, old_goals_outside}
use Rattle.framed_alternatives.proofs.Apart.{may_be_expanded_inside, stays_apart}
use Rattle.framed_alternatives.proofs.Steps.{IsStepInside, same_found, are_steps_inside, after_inside, after_outside, after_stays_apart}
use Rattle.framed_alternatives.proofs.Found.{All-found, All-flat_map, flat_map_alike}
use Rattle.framed_alternatives.proofs.Builds.{same_build}

-- The first goal is inside, with fresh numbers.
abbrev pub FirstIsInside : (ℕ → Bool) → LfGoals → Type 0
FirstIsInside within list = (g : LfGoal) × (first_goal list ≡ Some g) × (within g.id ≡ true)

-- A normal form of a list, and the one of its goals inside.
pub record IsFramed (n : ℕ) (within : ℕ → Bool) (list : LfGoals) (normal inner : LfNormal) : Type 0 where
  pub is_inner : inner ≡ inside_normal (with_fresh within n) normal
  pub outside : goals_inside (outside_of (with_fresh within n)) normal.goals ≡ goals_inside (outside_of within) list
  pub has_first : normal.closed ≡ false → FirstIsInside (with_fresh within n) normal.goals

-- The first of some new goals that are left.
first_left : (goals : List LfGoal) (σ : Assignment) (p : LfGoal) (ps xs ys new : List LfGoal) → new ≡ p ∷ ps → σ p.id ≡ None → first_of (goals_left goals σ (new ++ xs) ++ ys) ≡ Some (instance_of_goal goals σ p)
first_left goals σ p ps xs ys new e none =
    ap (λ qs. first_of (goals_left goals σ (qs ++ xs) ++ ys)) e
    ∙ ap (λ o. first_of ((if is_some o then goals_left goals σ (ps ++ xs) else instance_of_goal goals σ p ∷ goals_left goals σ (ps ++ xs)) ++ ys)) none

high_unassigned : (n : ℕ) (goals : List LfGoal) (entries : List LfAssigned) → All (λ h. h.id < n) goals → All (λ e. Contains (ids goals) e.assigned_goal) entries → (m : ℕ) → n ≤ m → assignment_of entries m ≡ None
high_unassigned n goals entries below keys m le = each (assignment_of entries m) refl
  where
    each : (o : Option LfTerm) → assignment_of entries m ≡ o → o ≡ None
    each None e = refl
    each (Some u) e =
        let less = found_entry (λ k v. k < n) entries (All-weaker (λ f. Contains (ids goals) f.assigned_goal) (λ f. f.assigned_goal < n) (λ f has. number_passes (λ k. k < n) goals below f.assigned_goal has) entries keys) m u e in
        absurd (omega (arith, less, le))

module _ (sig : LfSignature) (rules : List LfRule) (n : ℕ) (within : ℕ → Bool) (list : LfGoals) (begins : BeginsApart sig rules n within list) where
  -- the list as it is
  stopped_framed : IsFramed n within list (stopped false n list) (stopped false n (goals_inside within list))
  stopped_framed =
      let low = All-parts (λ h. h.id < n) list.proofs list.witnesses begins.may_be_expanded.below in
      let first = begins.first_is_inside in
      record {
        is_inner = ap (stopped false n) (sym (ap₂ goals_of (old_goals within n list.proofs low.0) (old_goals within n list.witnesses low.1)));
        outside = ap₂ goals_of (old_goals_outside within n list.proofs low.0) (old_goals_outside within n list.witnesses low.1);
        has_first = λ open_still. (first.0, first.1, old_inside within n first.0.id first.2);
      }

  same_lawful : first_lawful sig rules n (goals_inside within list) ≡ first_lawful sig rules n list
  same_lawful =
      let may = begins.may_be_expanded in
      let tried = filter (λ (rule : LfRule). is_normalising rule.phase) rules in
      let takes = All-filter (λ rule. is_normalising rule.phase) (λ rule. TakesAtoms sig rule.method) rules may.rules_take_atoms in
      ap (find is_lawful)
      (flat_map_alike (found_by sig n (goals_inside within list)) (found_by sig n list) tried
      (All-weaker (λ rule. TakesAtoms sig rule.method) (λ rule. found_by sig n (goals_inside within list) rule ≡ found_by sig n list rule) (same_found sig rules n within list begins) tried takes))

  -- What some rules found is a step.
  found_step : ApplicationsAreSteps → (tried : List LfRule) → All (λ rule. TakesAtoms sig rule.method) tried → All (λ rule. All (IsStepInside sig n within list) (found_by sig n list rule)) tried
  found_step steps tried takes =
      All-weaker (λ rule. TakesAtoms sig rule.method) (λ rule. All (IsStepInside sig n within list) (found_by sig n list rule)) (are_steps_inside sig rules n within list begins steps) tried takes

  lawful_step : ApplicationsAreSteps → (a : LfApplication) → first_lawful sig rules n list ≡ Some a → IsStepInside sig n within list a
  lawful_step steps a e =
      let tried = filter (λ (rule : LfRule). is_normalising rule.phase) rules in
      let takes = All-filter (λ rule. is_normalising rule.phase) (λ rule. TakesAtoms sig rule.method) rules begins.may_be_expanded.rules_take_atoms in
      (All-found (IsStepInside sig n within list) is_lawful _ (All-flat_map (IsStepInside sig n within list) (found_by sig n list) tried (found_step steps tried takes)) a e).0

  module _ (a : LfApplication) (step : IsStepInside sig n within list a) where
    abbrev part : LfGoals
    part = list_after (goals_inside within list) a

    may_go_on : MayBeExpanded sig rules (fresh_after n a) (list_after list a)
    may_go_on = record {
      signature = begins.may_be_expanded.signature;
      goals = step.on_all.takes.shaped;
      below = step.on_all.below;
      rules_take_atoms = begins.may_be_expanded.rules_take_atoms;
    }

    may_go_on_inside : MayBeExpanded sig rules (fresh_after n a) part
    may_go_on_inside = record {
      signature = begins.may_be_expanded.signature;
      goals = step.on_inside.takes.shaped;
      below = step.on_inside.below;
      rules_take_atoms = begins.may_be_expanded.rules_take_atoms;
    }

    first_is_new : (p : LfGoal) (ps : List LfGoal) → a.proofs ≡ p ∷ ps → FirstIsInside (with_fresh within n) (list_after list a)
    unfolding list_after
    first_is_new p ps e =
        let goals = all_goals (with_new list a) in
        let σ = assignment_of a.assigned in
        let high = All-head (λ h. n ≤ h.id) p ps (subst (All (λ h. n ≤ h.id)) e (All-parts (λ h. n ≤ h.id) a.proofs a.witnesses step.new_numbers).0) in
        let none = high_unassigned n (all_goals list) a.assigned begins.may_be_expanded.below step.on_all.takes.keys p.id high in (
          instance_of_goal goals σ p,
          first_left goals σ p ps list.proofs (goals_left goals σ (list.witnesses ++ a.witnesses)) a.proofs e none,
          ap (with_fresh within n) (instance_id goals σ p) ∙ fresh_inside within n p.id high,
        )

    begins_again : (p : LfGoal) (ps : List LfGoal) → a.proofs ≡ p ∷ ps → BeginsApart sig rules (fresh_after n a) (with_fresh within n) (list_after list a)
    begins_again p ps e = record {
      may_be_expanded = may_go_on;
      splits = (after_stays_apart sig rules n within list begins a step).splits;
      first_is_inside = first_is_new p ps e;
    }

    rises : n ≤ fresh_after n a
    rises = omega arith

    inside_again : with_fresh (with_fresh within n) (fresh_after n a) ≡ with_fresh within n
    inside_again = fresh_twice within n (fresh_after n a) rises

    part_is_inside : All (λ h. with_fresh within n h.id ≡ true) (all_goals part)
    part_is_inside =
        subst (λ l. All (λ h. with_fresh within n h.id ≡ true) (all_goals l)) (after_inside sig rules n within list begins a step)
        (subst (All (λ h. with_fresh within n h.id ≡ true)) (sym (all-inside (with_fresh within n) (list_after list a))) (passes_inside (with_fresh within n) (all_goals (list_after list a))))

    -- A step, and then what comes of the rest.
    abbrev BuildsAlike : List LfAssigned → Type 0
    BuildsAlike later =
        then_assigned (ids (all_goals (goals_inside within list))) (all_goals part) a.assigned later
        ≡ then_assigned (ids (all_goals list)) (all_goals (list_after list a)) a.assigned later

    abbrev with_build : LfNormal → List LfAssigned → LfNormal
    with_build rest build = record {
      labels = a.label ∷ rest.labels;
      closed = rest.closed;
      goals = goals_inside (with_fresh within n) rest.goals;
      build = build;
      fresh = rest.fresh;
    }

    step_framed : (rest inner : LfNormal) → inner ≡ inside_normal (with_fresh within n) rest →
        goals_inside (outside_of (with_fresh within n)) rest.goals ≡ goals_inside (outside_of (with_fresh within n)) (list_after list a) →
        (rest.closed ≡ false → FirstIsInside (with_fresh within n) rest.goals) → BuildsAlike rest.build →
        IsFramed n within list (after_step list a rest) (after_step (goals_inside within list) a inner)
    step_framed rest inner is_inner outside has_first builds = record {
      is_inner = ap (after_step (goals_inside within list) a) is_inner ∙ ap (with_build rest) builds;
      outside = outside ∙ after_outside sig rules n within list begins a step;
      has_first = has_first;
    }

    -- The step closes the goal.
    closing_framed : IsFramed n within list (after_step list a (stopped true (fresh_after n a) (list_after list a))) (after_step (goals_inside within list) a (stopped true (fresh_after n a) part))
    closing_framed =
        step_framed (stopped true (fresh_after n a) (list_after list a)) (stopped true (fresh_after n a) part)
        (ap (stopped true (fresh_after n a)) (sym (after_inside sig rules n within list begins a step))) refl (λ e. absurd (clash e))
        (nothing_follows.0 (ids (all_goals (goals_inside within list))) (all_goals part) a.assigned ∙ sym (nothing_follows.0 (ids (all_goals list)) (all_goals (list_after list a)) a.assigned))
      where
        clash : true ≡ false → ⊥
        clash e = absurd cc

    -- Or the rest is normal forms again.
    module _ (reached : NormalFormsAreReached) (most : ℕ)
        (later : IsFramed (fresh_after n a) (with_fresh within n) (list_after list a) (normal_within most sig rules (fresh_after n a) (list_after list a))
        (normal_within most sig rules (fresh_after n a) (goals_inside (with_fresh within n) (list_after list a)))) where
      abbrev rest : LfNormal
      rest = normal_within most sig rules (fresh_after n a) (list_after list a)

      abbrev rest_inside : LfNormal
      rest_inside = normal_within most sig rules (fresh_after n a) part

      rest_is_inner : rest_inside ≡ inside_normal (with_fresh within n) rest
      rest_is_inner =
          sym (ap (normal_within most sig rules (fresh_after n a)) (after_inside sig rules n within list begins a step)) ∙ later.is_inner ∙ ap (λ test. inside_normal test rest) inside_again

      rest_builds : BuildsAlike rest.build
      rest_builds =
          same_build sig n within list begins.may_be_expanded.below (list_after list a) part rest.goals rest_inside.goals a.assigned rest.build step.on_all.takes step.on_inside.takes
          ((reached sig rules (fresh_after n a) (list_after list a) may_go_on).0 most).takes
          (subst (Takes sig part rest_inside.goals) (ap (λ x. x.build) rest_is_inner) ((reached sig rules (fresh_after n a) part may_go_on_inside).0 most).takes) part_is_inside

      going_on_framed : IsFramed n within list (after_step list a rest) (after_step (goals_inside within list) a rest_inside)
      going_on_framed =
          step_framed rest rest_inside rest_is_inner
          (subst (λ test. goals_inside (outside_of test) rest.goals ≡ goals_inside (outside_of (with_fresh within n)) (list_after list a)) inside_again later.outside)
          (subst (λ test. rest.closed ≡ false → FirstIsInside test rest.goals) inside_again later.has_first) rest_builds

module _ (steps : ApplicationsAreSteps) (reached : NormalFormsAreReached) (sig : LfSignature) (rules : List LfRule) where
  abbrev FramedWithin : ℕ → Type 0
  FramedWithin most =
      (n : ℕ) (within : ℕ → Bool) (list : LfGoals) → BeginsApart sig rules n within list →
      IsFramed n within list (normal_within most sig rules n list) (normal_within most sig rules n (goals_inside within list))

  one_more : (most : ℕ) → FramedWithin most → FramedWithin (suc most)
  one_more most later n within list begins =
      subst (λ o. IsFramed n within list (normal_within (suc most) sig rules n list) (step_or_stop n (goals_inside within list) (normal_within most sig rules) o))
      (sym (same_lawful sig rules n within list begins)) (each (first_lawful sig rules n list) refl)
    where
      after : (a : LfApplication) → IsStepInside sig n within list a → (ps : List LfGoal) → a.proofs ≡ ps →
          IsFramed n within list
          (after_step list a (if has_none ps then stopped true (fresh_after n a) (list_after list a) else normal_within most sig rules (fresh_after n a) (list_after list a)))
          (after_step (goals_inside within list) a
          (if has_none ps then stopped true (fresh_after n a) (list_after (goals_inside within list) a) else normal_within most sig rules (fresh_after n a) (list_after (goals_inside within list) a)))
      after a step [] e = closing_framed sig rules n within list begins a step
      after a step (p ∷ ps) e =
          going_on_framed sig rules n within list begins a step reached most
          (later (fresh_after n a) (with_fresh within n) (list_after list a) (begins_again sig rules n within list begins a step p ps e))

      each : (o : Option LfApplication) → first_lawful sig rules n list ≡ o →
          IsFramed n within list (step_or_stop n list (normal_within most sig rules) o) (step_or_stop n (goals_inside within list) (normal_within most sig rules) o)
      each None e = stopped_framed sig rules n within list begins
      each (Some a) e = after a (lawful_step sig rules n within list begins steps a e) a.proofs refl

  pub normal_within_framed : (most : ℕ) → FramedWithin most
  normal_within_framed zero n within list begins = stopped_framed sig rules n within list begins
  normal_within_framed (suc most) n within list begins = one_more most (λ k test other again. normal_within_framed most k test other again) n within list begins

  pub normal_form_framed : (n : ℕ) (within : ℕ → Bool) (list : LfGoals) → BeginsApart sig rules n within list → IsFramed n within list (normal_form sig rules n list) (normal_form sig rules n (goals_inside within list))
  unfolding normal_form
  normal_form_framed = normal_within_framed most_normalising

pub normal_forms_are_framed : ApplicationsAreSteps → NormalFormsAreReached → NormalFormsAreFramed
normal_forms_are_framed steps reached sig rules n within list begins =
    let framed = normal_form_framed steps reached sig rules n within list begins in
    let normal = normal_form sig rules n list in
    let inner = (reached sig rules n (goals_inside within list) (may_be_expanded_inside sig rules n within list begins)).1 in (
      framed.is_inner,
      stays_apart sig rules n within list begins normal.goals (normal_form sig rules n (goals_inside within list)).goals inner.takes.shaped (sym (ap (λ x. x.goals) framed.is_inner)) framed.outside,
    )
