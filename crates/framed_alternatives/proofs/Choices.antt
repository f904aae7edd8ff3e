-- The alternatives of a list that begins apart are, inside, those of the goals inside.
use Rattle.std.proofs.Common.{◌≡◌, ℕ, Bool, true, false, Option, Some, None, List, [], ◌∷◌, map, All, refl, sym, ap, ◌∙◌, subst}
use Rattle.std.specs.Prelude.{not, if◌then◌else◌, find, filter, flat_map}
use Rattle.std.proofs.lemmas.List.Elements.{All-nil, All-cons, All-filter, All-map, All-weaker}
use Rattle.lf_definitions.specs.Signatures.{LfSignature}
use Rattle.lf_definitions.specs.GoalLists.{LfGoals, all_goals, ids}
use Rattle.lf_definitions.specs.Instantiation.{LfAssigned}
use Rattle.applications.specs.Applications.{LfApplication}
use Rattle.application_laws.specs.Conditions.{TakesAtoms, goals_inside}
use Rattle.alternatives.specs.Rules.{LfRule, is_normalising, is_safe, found_by}
use Rattle.alternatives.specs.ListsAfter.{list_after, then_assigned}
use Rattle.alternatives.specs.NormalForms.{LfNormal, normal_form}
use Rattle.alternatives.specs.Taking.{Takes}
use Rattle.alternatives.specs.Reaching.{IsReached}
use Rattle.alternatives.specs.Alternatives.{LfLast, safely, LfAlternative, taken, may_be_committed, first_safe, percent_of, chosen_as, ranked, choices_of, committed_or_chosen, as_done, alternatives_from, alternatives}
use Rattle.clusters.specs.Links.{outside_of}
use Rattle.step_laws.specs.Laws.{ApplicationsAreSteps}
use Rattle.taken_alternatives.specs.Laws.{NormalFormsAreReached}
use Rattle.framed_alternatives.specs.Laws.{with_fresh, BeginsApart, StaysApart, inside_normal, inside_alternative, AlternativesAreFramed}
use Rattle.framed_alternatives.proofs.Insides.{fresh_twice, all-inside, passes_inside}
use Rattle.framed_alternatives.proofs.Apart.{may_be_expanded_inside, stays_apart}
use Rattle.framed_alternatives.proofs.Steps.{IsStepInside, same_found, are_steps_inside, after_inside, after_outside}
use Rattle.framed_alternatives.proofs.Found.{All-found, All-flat_map, map_alike, flat_map_alike, map-flat_map, All-ranked}
use Rattle.framed_alternatives.proofs.Builds.{same_build}
use Rattle.framed_alternatives.proofs.Normal.{IsFramed, normal_form_framed}

-- A list that begins apart, with a normal form that is reached, and the one of its goals inside.
module _ (steps : ApplicationsAreSteps) (sig : LfSignature) (rules : List LfRule) (n : ℕ) (within : ℕ → Bool) (list : LfGoals) (begins : BeginsApart sig rules n within list) (normal inner : LfNormal)
    (framed : IsFramed n within list normal inner) (reached : IsReached sig n list normal) (reached_inside : IsReached sig n (goals_inside within list) inner) where
  abbrev wider : ℕ → Bool
  wider = with_fresh within n

  -- The goals of the normal form that are inside.
  abbrev part : LfGoals
  part = goals_inside wider normal.goals

  inside_again : with_fresh wider normal.fresh ≡ wider
  inside_again = fresh_twice within n normal.fresh reached.rises

  part_taken : Takes sig (goals_inside within list) part normal.build
  part_taken = subst (λ (x : LfNormal). Takes sig (goals_inside within list) x.goals x.build) framed.is_inner reached_inside.takes

  -- What the alternatives of two lists are.
  abbrev AreFramed : List LfAlternative → List LfAlternative → Type 0
  AreFramed of_part of_all = (of_part ≡ map (inside_alternative wider) of_all) × All (λ (x : LfAlternative). StaysApart n within list x.goals) of_all

  one_framed : (x y : LfAlternative) → y ≡ inside_alternative wider x → StaysApart n within list x.goals → AreFramed (y ∷ []) (x ∷ [])
  one_framed x y e stays = (
    ap (λ z. z ∷ []) e,
    All-cons (λ (z : LfAlternative). StaysApart n within list z.goals) x [] stays (All-nil (λ (z : LfAlternative). StaysApart n within list z.goals)),
  )

  done_framed : AreFramed (as_done (inside_normal wider normal) ∷ []) (as_done normal ∷ [])
  done_framed =
      one_framed (as_done normal) (as_done (inside_normal wider normal)) refl
      (stays_apart sig rules n within list begins normal.goals part part_taken.shaped refl framed.outside)

  module _ (goes_on : normal.closed ≡ false) where
    begins_again : BeginsApart sig rules normal.fresh wider normal.goals
    begins_again = record {
      may_be_expanded = record {
        signature = begins.may_be_expanded.signature;
        goals = reached.takes.shaped;
        below = reached.below;
        rules_take_atoms = begins.may_be_expanded.rules_take_atoms;
      };
      splits = (stays_apart sig rules n within list begins normal.goals part part_taken.shaped refl framed.outside).splits;
      first_is_inside = framed.has_first goes_on;
    }

    module _ (a : LfApplication) (step : IsStepInside sig normal.fresh wider normal.goals a) where
      goals_framed : list_after part a ≡ goals_inside wider (list_after normal.goals a)
      goals_framed =
          sym (after_inside sig rules normal.fresh wider normal.goals begins_again a step) ∙ ap (λ test. goals_inside test (list_after normal.goals a)) inside_again

      outside_framed : goals_inside (outside_of wider) (list_after normal.goals a) ≡ goals_inside (outside_of within) list
      outside_framed =
          ap (λ test. goals_inside (outside_of test) (list_after normal.goals a)) (sym inside_again)
          ∙ after_outside sig rules normal.fresh wider normal.goals begins_again a step ∙ framed.outside

      builds_framed : then_assigned (ids (all_goals (goals_inside within list))) (all_goals part) normal.build a.assigned ≡ then_assigned (ids (all_goals list)) (all_goals normal.goals) normal.build a.assigned
      builds_framed =
          same_build sig n within list begins.may_be_expanded.below normal.goals part (list_after normal.goals a) (list_after part a) normal.build a.assigned reached.takes part_taken
          step.on_all.takes step.on_inside.takes (subst (All (λ h. wider h.id ≡ true)) (sym (all-inside wider normal.goals)) (passes_inside wider (all_goals normal.goals)))

      abbrev as_taken : LfLast → ℕ → LfGoals → List LfAssigned → LfAlternative
      as_taken last percent goals build = record { norm = normal.labels; last = last; percent = percent; goals = goals; build = build }

      taken_framed : (last : LfLast) (percent : ℕ) → taken (goals_inside within list) (inside_normal wider normal) last percent a ≡ inside_alternative wider (taken list normal last percent a)
      taken_framed last percent =
          ap (λ goals. as_taken last percent goals (then_assigned (ids (all_goals (goals_inside within list))) (all_goals part) normal.build a.assigned)) goals_framed
          ∙ ap (as_taken last percent (goals_inside wider (list_after normal.goals a))) builds_framed

      taken_stays : StaysApart n within list (list_after normal.goals a)
      taken_stays = stays_apart sig rules n within list begins (list_after normal.goals a) (list_after part a) step.on_inside.takes.shaped (sym goals_framed) outside_framed

    found_steps : (rule : LfRule) → TakesAtoms sig rule.method → All (IsStepInside sig normal.fresh wider normal.goals) (found_by sig normal.fresh normal.goals rule)
    found_steps = are_steps_inside sig rules normal.fresh wider normal.goals begins_again steps

    -- All applications of a rule, each as a choice.
    choices_framed : (rule : LfRule) → TakesAtoms sig rule.method →
        AreFramed (choices_of sig (goals_inside within list) (inside_normal wider normal) rule) (choices_of sig list normal rule)
    choices_framed rule takes =
        let found = found_by sig normal.fresh normal.goals rule in
        let last = λ (a : LfApplication). chosen_as rule.phase a.label in
        let choice = λ (a : LfApplication). taken list normal (last a) (percent_of rule.phase) a in
        let choice_inside = λ (a : LfApplication). taken (goals_inside within list) (inside_normal wider normal) (last a) (percent_of rule.phase) a in (
          ap (map choice_inside) (same_found sig rules normal.fresh wider normal.goals begins_again rule takes)
              ∙ map_alike choice_inside (λ a. inside_alternative wider (choice a)) found
              (All-weaker (IsStepInside sig normal.fresh wider normal.goals) (λ a. choice_inside a ≡ inside_alternative wider (choice a))
              (λ a step. taken_framed a step (last a) (percent_of rule.phase)) found (found_steps rule takes))
              ∙ map_twice choice found,
          All-map (λ (x : LfAlternative). StaysApart n within list x.goals) choice found
              (All-weaker (IsStepInside sig normal.fresh wider normal.goals) (λ a. StaysApart n within list (choice a).goals) taken_stays found (found_steps rule takes)),
        )
      where
        map_twice : (f : LfApplication → LfAlternative) (xs : List LfApplication) → map (λ a. inside_alternative wider (f a)) xs ≡ map (inside_alternative wider) (map f xs)
        map_twice f [] = refl
        map_twice f (x ∷ xs) = ap (λ ys. inside_alternative wider (f x) ∷ ys) (map_twice f xs)

    all_choices_framed : (tried : List LfRule) → All (λ rule. TakesAtoms sig rule.method) tried →
        AreFramed (flat_map (choices_of sig (goals_inside within list) (inside_normal wider normal)) tried) (flat_map (choices_of sig list normal) tried)
    all_choices_framed tried takes =
        let here = choices_of sig list normal in
        let there = choices_of sig (goals_inside within list) (inside_normal wider normal) in (
          flat_map_alike there (λ rule. map (inside_alternative wider) (here rule)) tried
              (All-weaker (λ rule. TakesAtoms sig rule.method) (λ rule. there rule ≡ map (inside_alternative wider) (here rule)) (λ rule atoms. (choices_framed rule atoms).0) tried takes)
              ∙ sym (map-flat_map (inside_alternative wider) here tried),
          All-flat_map (λ (x : LfAlternative). StaysApart n within list x.goals) here tried
              (All-weaker (λ rule. TakesAtoms sig rule.method) (λ rule. All (λ (x : LfAlternative). StaysApart n within list x.goals) (here rule)) (λ rule atoms. (choices_framed rule atoms).1) tried takes),
        )

    same_safe : first_safe sig rules normal.fresh part ≡ first_safe sig rules normal.fresh normal.goals
    same_safe =
        let tried = filter (λ (rule : LfRule). is_safe rule.phase) rules in
        let takes = All-filter (λ rule. is_safe rule.phase) (λ rule. TakesAtoms sig rule.method) rules begins.may_be_expanded.rules_take_atoms in
        ap (find may_be_committed)
        (flat_map_alike (found_by sig normal.fresh part) (found_by sig normal.fresh normal.goals) tried
        (All-weaker (λ rule. TakesAtoms sig rule.method) (λ rule. found_by sig normal.fresh part rule ≡ found_by sig normal.fresh normal.goals rule)
        (same_found sig rules normal.fresh wider normal.goals begins_again) tried takes))

    safe_step : (a : LfApplication) → first_safe sig rules normal.fresh normal.goals ≡ Some a → IsStepInside sig normal.fresh wider normal.goals a
    safe_step a e =
        let tried = filter (λ (rule : LfRule). is_safe rule.phase) rules in
        let takes = All-filter (λ rule. is_safe rule.phase) (λ rule. TakesAtoms sig rule.method) rules begins.may_be_expanded.rules_take_atoms in
        (All-found (IsStepInside sig normal.fresh wider normal.goals) may_be_committed _
        (All-flat_map (IsStepInside sig normal.fresh wider normal.goals) (found_by sig normal.fresh normal.goals) tried
        (All-weaker (λ rule. TakesAtoms sig rule.method) (λ rule. All (IsStepInside sig normal.fresh wider normal.goals) (found_by sig normal.fresh normal.goals rule)) found_steps tried takes)) a e).0

    committed_framed : (o : Option LfApplication) → first_safe sig rules normal.fresh normal.goals ≡ o →
        AreFramed (committed_or_chosen sig rules (goals_inside within list) (inside_normal wider normal) o) (committed_or_chosen sig rules list normal o)
    committed_framed (Some a) e =
        let step = safe_step a e in
        one_framed (taken list normal (safely a.label) 100 a) (taken (goals_inside within list) (inside_normal wider normal) (safely a.label) 100 a) (taken_framed a step (safely a.label) 100) (taken_stays a step)
    committed_framed None e =
        all_choices_framed (ranked (filter (λ (rule : LfRule). not (is_normalising rule.phase)) rules))
        (All-ranked (λ rule. TakesAtoms sig rule.method) (filter (λ (rule : LfRule). not (is_normalising rule.phase)) rules)
        (All-filter (λ rule. not (is_normalising rule.phase)) (λ rule. TakesAtoms sig rule.method) rules begins.may_be_expanded.rules_take_atoms))

    open_framed :
        AreFramed (committed_or_chosen sig rules (goals_inside within list) (inside_normal wider normal) (first_safe sig rules normal.fresh part))
        (committed_or_chosen sig rules list normal (first_safe sig rules normal.fresh normal.goals))
    open_framed =
        subst
        (λ o.
        AreFramed (committed_or_chosen sig rules (goals_inside within list) (inside_normal wider normal) o)
        (committed_or_chosen sig rules list normal (first_safe sig rules normal.fresh normal.goals)))
        (sym same_safe) (committed_framed (first_safe sig rules normal.fresh normal.goals) refl)

  all_framed : AreFramed (alternatives_from sig rules (goals_inside within list) (inside_normal wider normal)) (alternatives_from sig rules list normal)
  all_framed = each normal.closed refl
    where
      each : (b : Bool) → normal.closed ≡ b →
          AreFramed
          (if b then as_done (inside_normal wider normal) ∷ []
          else committed_or_chosen sig rules (goals_inside within list) (inside_normal wider normal) (first_safe sig rules normal.fresh part))
          (if b then as_done normal ∷ [] else committed_or_chosen sig rules list normal (first_safe sig rules normal.fresh normal.goals))
      each true e = done_framed
      each false e = open_framed e

  pub alternatives_from_framed : AreFramed (alternatives_from sig rules (goals_inside within list) inner) (alternatives_from sig rules list normal)
  alternatives_from_framed = subst (λ x. AreFramed (alternatives_from sig rules (goals_inside within list) x) (alternatives_from sig rules list normal)) (sym framed.is_inner) all_framed

pub alternatives_are_framed : ApplicationsAreSteps → NormalFormsAreReached → AlternativesAreFramed
unfolding alternatives
alternatives_are_framed steps reached sig rules n within list begins =
    alternatives_from_framed steps sig rules n within list begins (normal_form sig rules n list) (normal_form sig rules n (goals_inside within list))
    (normal_form_framed steps reached sig rules n within list begins) (reached sig rules n list begins.may_be_expanded).1
    (reached sig rules n (goals_inside within list) (may_be_expanded_inside sig rules n within list begins)).1
