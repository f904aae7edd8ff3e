-- From a list that was reached, one more application goes on.
use Rattle.std.proofs.Common.{◌≡◌, inl, ℕ, ◌<◌, ◌≤◌, Bool, false, List, [], map, max, All, refl, sym, ap, subst, subst₂, ◌∙◌, arith}
use Rattle.std.proofs.Math.Nat.{le-max_left}
use Rattle.std.proofs.lemmas.List.Elements.{All-nil}
use Rattle.lf_definitions.specs.Signatures.{LfSignature}
use Rattle.lf_definitions.specs.GoalLists.{LfGoals, all_goals, ids, above, next_id}
use Rattle.applications.specs.Methods.{LfLabel}
use Rattle.applications.specs.Applications.{LfApplication}
use Rattle.application_laws.specs.Conditions.{new_goals}
use Rattle.application_laws.proofs.Members.{contains_in}
use Rattle.meta_goals.specs.Bindings.{LfBinding, assigned_of}
use Rattle.meta_goals.specs.Laws.{HaveShapesOf}
use Rattle.alternatives.specs.Rules.{LfRule}
use Rattle.alternatives.specs.ListsAfter.{list_after, fresh_after, then_assigned}
use Rattle.alternatives.specs.NormalForms.{has_none, normal_form}
use Rattle.alternatives.specs.Taking.{Takes}
use Rattle.alternatives.specs.Steps.{AreOldOrNew, IsStep}
use Rattle.alternatives.specs.Reaching.{MayBeExpanded, IsReached}
use Rattle.step_laws.proofs.Numbers.{all_below_above}
use Rattle.build_laws.specs.Laws.{NoneComesBack}
use Rattle.build_laws.proofs.Laws.{assignments_follow, nothing_is_taken, nothing_follows}
use Rattle.taken_alternatives.proofs.Lists.{own_numbers, some_goal}
use Rattle.taken_alternatives.proofs.Numbers.{no_number_back, old_or_new_on}
use Rattle.taken_alternatives.proofs.Laws.{normal_forms_are_reached}
use Rattle.goal_advance.specs.Following.{MayFollow}
use Rattle.goal_expand.specs.Reaching.{IsReachedBy, built, MayGoOn, IsNormal}

-- The rules may be asked about a list that was reached.
pub may_be_expanded_on : (sig : LfSignature) (rules : List LfRule) (list goals : LfGoals) (bindings : List LfBinding) → MayBeExpanded sig rules (next_id list) list → IsReachedBy sig list goals bindings →
    MayBeExpanded sig rules (next_id goals) goals
may_be_expanded_on sig rules list goals bindings may reached =
    record { signature = may.signature; goals = reached.takes.shaped; below = all_below_above (all_goals goals); rules_take_atoms = may.rules_take_atoms }

-- With no step the list is reached.
pub is_reached_first : (sig : LfSignature) (list : LfGoals) (rules : List LfRule) → MayBeExpanded sig rules (next_id list) list → IsReachedBy sig list list []
is_reached_first sig list rules may = record {
  takes = nothing_is_taken sig list may.goals;
  shapes = All-nil _;
  rises = omega arith;
  old_or_new = λ k d less. inl (contains_in _ (ids (all_goals list)) (own_numbers (all_goals list) k d less));
}

-- Nothing was assigned before the first step.
pub nothing_before : (n : ℕ) (list : LfGoals) (later : List LfBinding) → MayGoOn n list list [] later → map assigned_of later ≡ built list list [] later
nothing_before n list later m = sym (nothing_follows.1 (ids (all_goals list)) (all_goals list) (map assigned_of later) m.takes_later.keys)

abbrev pub may_follow : (n : ℕ) (list goals : LfGoals) (earlier later : List LfBinding) → MayGoOn n list goals earlier later → MayFollow n earlier later
may_follow n list goals earlier later m = record {
  sig = m.sig;
  before = list;
  between = goals;
  after = m.after;
  takes_earlier = m.takes_earlier;
  takes_later = m.takes_later;
  earlier_shapes = m.earlier_shapes;
  later_shapes = m.later_shapes;
  shaped = m.shaped;
  below = m.below;
  old_or_new = m.old_or_new;
}

module _ (sig : LfSignature) (rules : List LfRule) (list : LfGoals) (may : MayBeExpanded sig rules (next_id list) list) (goals : LfGoals) (bindings : List LfBinding)
    (reached : IsReachedBy sig list goals bindings) (a : LfApplication) (step : IsStep sig (next_id goals) goals a) where
  pub may_go_on : (n : ℕ) → n ≡ next_id list → (later : List LfBinding) → map assigned_of later ≡ a.assigned → HaveShapesOf (all_goals goals) later → MayGoOn n list goals bindings later
  may_go_on n e later assigns shapes = record {
    sig = sig;
    after = list_after goals a;
    takes_earlier = reached.takes;
    takes_later = subst (Takes sig goals (list_after goals a)) (sym assigns) step.takes;
    earlier_shapes = reached.shapes;
    later_shapes = shapes;
    shaped = may.goals;
    below = subst (λ k. All (λ g. g.id < k) (all_goals list)) (sym e) may.below;
    old_or_new = subst (λ k. AreOldOrNew list k goals) (sym e) reached.old_or_new;
  }

  abbrev After : LfGoals
  After = list_after goals a

  pub none_back : NoneComesBack list goals (list_after goals a)
  none_back = no_number_back list goals After (next_id list) (next_id goals) reached.rises reached.old_or_new step.old_or_new may.below

  pub takes_on : Takes sig list (list_after goals a) (then_assigned (ids (all_goals list)) (all_goals goals) (map assigned_of bindings) a.assigned)
  takes_on = (assignments_follow sig list goals After (map assigned_of bindings) a.assigned may.goals reached.takes step.takes none_back).0

  pub may_be_expanded_after : MayBeExpanded sig rules (next_id (list_after goals a)) (list_after goals a)
  may_be_expanded_after = record { signature = may.signature; goals = step.takes.shaped; below = all_below_above (all_goals After); rules_take_atoms = may.rules_take_atoms }

  module _ (has_new : has_none a.proofs ≡ false) where
    pub next_is : next_id (list_after goals a) ≡ fresh_after (next_id goals) a
    next_is = step.next (some_goal a.proofs a.witnesses has_new)

    pub is_reached_on : (all : List LfBinding) → map assigned_of all ≡ then_assigned (ids (all_goals list)) (all_goals goals) (map assigned_of bindings) a.assigned → HaveShapesOf (all_goals list) all →
        IsReachedBy sig list (list_after goals a) all
    is_reached_on all build shapes = record {
      takes = subst (Takes sig list After) (sym build) takes_on;
      shapes = shapes;
      rises =
          let earlier = reached.rises in
          let next = next_is in
          let greater : next_id goals ≤ max (next_id goals) (above (ids (new_goals a))) = le-max_left (next_id goals) (above (ids (new_goals a))) in
          omega (arith, earlier, next, greater);
      old_or_new = old_or_new_on list goals After (next_id list) (next_id goals) reached.rises reached.old_or_new step.old_or_new;
    }

-- The list of a normal form that is not closed is reached.
pub open_is_reached : (sig : LfSignature) (rules : List LfRule) (list : LfGoals) → MayBeExpanded sig rules (next_id list) list →
    (labels : List LfLabel) (closed : Bool) (goals : LfGoals) (bindings : List LfBinding) → IsNormal (normal_form sig rules (next_id list) list) labels closed goals bindings → closed ≡ false →
    HaveShapesOf (all_goals list) bindings → IsReachedBy sig list goals bindings × (next_id goals ≡ (normal_form sig rules (next_id list) list).fresh)
open_is_reached sig rules list may labels closed goals bindings is not_closed shapes =
    let normal = normal_form sig rules (next_id list) list in
    let law : IsReached sig (next_id list) list normal = (normal_forms_are_reached sig rules (next_id list) list may).1 in
    let fresh : normal.fresh ≡ next_id normal.goals = law.next (sym is.closed_is ∙ not_closed) refl in
    let next : next_id goals ≡ next_id normal.goals = ap next_id is.goals_are in (
      record {
        takes = subst₂ (λ g b. Takes sig list g b) (sym is.goals_are) (sym is.build_is) law.takes;
        shapes = shapes;
        rises = let rises = law.rises in omega (arith, rises, fresh, next);
        old_or_new = subst (AreOldOrNew list (next_id list)) (sym is.goals_are) law.old_or_new;
      },
      next ∙ sym fresh,
    )
