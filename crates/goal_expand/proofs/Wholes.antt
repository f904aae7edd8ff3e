-- Normal forms, one step after another.
use Rattle.std.proofs.Common.{◌≡◌, ℕ, suc, Bool, true, false, Some, None, List, [], ◌∷◌, ◌++◌, map, sym, ap, ap₂, ◌∙◌, append_assoc, append-nil}
use Rattle.std.specs.Prelude.{if◌then◌else◌}
use Rattle.lf_definitions.specs.Signatures.{LfSignature}
use Rattle.lf_definitions.specs.GoalLists.{LfGoals, all_goals, ids, next_id}
use Rattle.lf_definitions.specs.Instantiation.{LfAssigned}
use Rattle.applications.specs.Methods.{LfLabel}
use Rattle.applications.specs.Applications.{LfApplication}
use Rattle.meta_goals.specs.Bindings.{LfBinding, assigned_of}
use Rattle.meta_goals.specs.Laws.{HaveShapesOf}
use Rattle.alternatives.specs.Rules.{LfRule}
use Rattle.alternatives.specs.ListsAfter.{list_after, fresh_after, then_assigned}
use Rattle.alternatives.specs.NormalForms.{has_none, first_lawful, LfNormal, stopped, after_step, step_or_stop, normal_within, most_normalising, normal_form}
use Rattle.alternatives.specs.Taking.{Takes}
use Rattle.alternatives.specs.Steps.{IsStep}
use Rattle.alternatives.specs.Reaching.{MayBeExpanded, IsReached}
use Rattle.build_laws.proofs.Laws.{following_is_associative, nothing_follows}
use Rattle.taken_alternatives.proofs.Laws.{normal_forms_are_reached}
use Rattle.goal_expand.specs.Reaching.{IsReachedBy, continued, IsOnTheWay, IsNormal}
use Rattle.goal_expand.proofs.Reached.{is_reached_first, none_back, may_be_expanded_after, next_is, is_reached_on}

normal_form_is : (sig : LfSignature) (rules : List LfRule) (n : ℕ) (list : LfGoals) (most : ℕ) → most ≡ most_normalising → normal_form sig rules n list ≡ normal_within most sig rules n list
unfolding normal_form
normal_form_is sig rules n list most e = ap (λ k. normal_within k sig rules n list) (sym e)

-- With no step before it a normal form is whole.
nothing_on_the_way : (list : LfGoals) (rest : LfNormal) → then_assigned (ids (all_goals list)) (all_goals list) [] rest.build ≡ rest.build → rest ≡ continued list [] list [] rest
nothing_on_the_way list rest e = ap (λ bs. record { labels = rest.labels; closed = rest.closed; goals = rest.goals; build = bs; fresh = rest.fresh }) (sym e)

module _ (sig : LfSignature) (rules : List LfRule) (list : LfGoals) (may : MayBeExpanded sig rules (next_id list) list) where
  abbrev Whole : LfNormal
  Whole = normal_form sig rules (next_id list) list

  pub begins : (most : ℕ) → most ≡ most_normalising → IsOnTheWay sig rules list most [] list []
  begins most e =
      let rest = normal_within most sig rules (next_id list) list in
      let reached : IsReached sig (next_id list) list rest = (normal_forms_are_reached sig rules (next_id list) list may).0 most in
      record {
        reached = is_reached_first sig list rules may;
        whole = normal_form_is sig rules (next_id list) list most e ∙ nothing_on_the_way list rest (nothing_follows.1 (ids (all_goals list)) (all_goals list) rest.build reached.takes.keys);
      }

  module _ (labels : List LfLabel) (goals : LfGoals) (bindings : List LfBinding) where
    abbrev Build : List LfAssigned
    Build = map assigned_of bindings

    -- Where the rest makes no step, what was made is the normal form.
    stays : Whole ≡ continued list labels goals Build (stopped false (next_id goals) goals) → IsNormal Whole labels false goals bindings
    stays w = record {
      labels_are = sym (append-nil labels) ∙ sym (ap (λ (m : LfNormal). m.labels) w);
      closed_is = sym (ap (λ (m : LfNormal). m.closed) w);
      goals_are = sym (ap (λ (m : LfNormal). m.goals) w);
      build_is = sym (nothing_follows.0 (ids (all_goals list)) (all_goals goals) Build) ∙ sym (ap (λ (m : LfNormal). m.build) w);
    }

    pub no_turn_left : (left : ℕ) → left ≡ 0 → IsOnTheWay sig rules list left labels goals bindings → IsNormal (normal_form sig rules (next_id list) list) labels false goals bindings
    no_turn_left left none way = stays (way.whole ∙ ap (λ k. continued list labels goals Build (normal_within k sig rules (next_id goals) goals)) none)

    pub no_more_lawful : (left : ℕ) → first_lawful sig rules (next_id goals) goals ≡ None → IsOnTheWay sig rules list (suc left) labels goals bindings →
        IsNormal (normal_form sig rules (next_id list) list) labels false goals bindings
    no_more_lawful left none way =
        stays (way.whole ∙ ap (λ o. continued list labels goals Build (step_or_stop (next_id goals) goals (normal_within left sig rules) o)) none)

    module _ (reached : IsReachedBy sig list goals bindings) (a : LfApplication) (step : IsStep sig (next_id goals) goals a) where
      abbrev After : LfGoals
      After = list_after goals a

      abbrev Fresh : ℕ
      Fresh = fresh_after (next_id goals) a

      abbrev Labels : List LfLabel
      Labels = labels ++ a.label ∷ []

      abbrev BuildOn : List LfAssigned
      BuildOn = then_assigned (ids (all_goals list)) (all_goals goals) Build a.assigned

      -- A step is one of those that were made.
      with_step : (rest : LfNormal) → Takes sig After rest.goals rest.build → continued list labels goals Build (after_step goals a rest) ≡ continued list Labels After BuildOn rest
      with_step rest takes =
          ap₂ (λ ls bs. record { labels = ls; closed = rest.closed; goals = rest.goals; build = bs; fresh = rest.fresh }) (sym (append_assoc labels (a.label ∷ []) rest.labels))
          (following_is_associative sig list goals After rest.goals Build a.assigned rest.build may.goals reached.takes step.takes takes (none_back sig rules list may goals bindings reached a step))

      -- what is left once a step is known
      stepped : (left : ℕ) (closes : Bool) → first_lawful sig rules (next_id goals) goals ≡ Some a → has_none a.proofs ≡ closes →
          Whole ≡ continued list labels goals Build (normal_within (suc left) sig rules (next_id goals) goals) →
          Whole ≡ continued list labels goals Build (after_step goals a (if closes then stopped true Fresh After else normal_within left sig rules Fresh After))
      stepped left closes e b w =
          w ∙ ap (λ o. continued list labels goals Build (step_or_stop (next_id goals) goals (normal_within left sig rules) o)) e
          ∙ ap (λ c. continued list labels goals Build (after_step goals a (if c then stopped true Fresh After else normal_within left sig rules Fresh After))) b

      module _ (left : ℕ) (found : first_lawful sig rules (next_id goals) goals ≡ Some a) (way : IsOnTheWay sig rules list (suc left) labels goals bindings)
          (all : List LfBinding) (build : map assigned_of all ≡ then_assigned (ids (all_goals list)) (all_goals goals) (map assigned_of bindings) a.assigned) where
        pub closes_now : has_none a.proofs ≡ true → IsNormal (normal_form sig rules (next_id list) list) (labels ++ a.label ∷ []) true (list_after goals a) all
        closes_now b =
            let w = stepped left true found b way.whole in
            record {
              labels_are = sym (ap (λ (m : LfNormal). m.labels) w);
              closed_is = sym (ap (λ (m : LfNormal). m.closed) w);
              goals_are = sym (ap (λ (m : LfNormal). m.goals) w);
              build_is = build ∙ ap (λ bs. then_assigned (ids (all_goals list)) (all_goals goals) Build bs) (sym (nothing_follows.0 (ids (all_goals goals)) (all_goals After) a.assigned))
                  ∙ sym (ap (λ (m : LfNormal). m.build) w);
            }

        pub goes_on : has_none a.proofs ≡ false → HaveShapesOf (all_goals list) all → IsOnTheWay sig rules list left (labels ++ a.label ∷ []) (list_after goals a) all
        goes_on b shapes =
            let next : next_id After ≡ Fresh = next_is sig rules list may goals bindings reached a step b in
            let rest = normal_within left sig rules (next_id After) After in
            let rest_reached : IsReached sig (next_id After) After rest =
            (normal_forms_are_reached sig rules (next_id After) After (may_be_expanded_after sig rules list may goals bindings reached a step)).0 left in
            record {
              reached = is_reached_on sig rules list may goals bindings reached a step b all build shapes;
              whole = stepped left false found b way.whole
                  ∙ ap (λ k. continued list labels goals Build (after_step goals a (normal_within left sig rules k After))) (sym next)
                  ∙ with_step rest rest_reached.takes
                  ∙ ap (λ bs. continued list Labels After bs rest) (sym build);
            }
