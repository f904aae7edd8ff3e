-- Assignments that keep types keep types one after the other.
use Rattle.std.proofs.Common.{◌≡◌, ℕ, Option, Some, None, List, [], refl, sym, ap, ◌∙◌, subst}
use Rattle.std.specs.Prelude.{Contains}
use Rattle.std.proofs.lemmas.List.Elements.{All-weaker, All-contains, All-contains_itself}
use Rattle.lf_definitions.specs.Syntax.{metavariable, LfTerm, atomic, shape_of}
use Rattle.lf_definitions.specs.Shaping.{Shaped}
use Rattle.lf_definitions.specs.Occurrence.{OccursInGoal}
use Rattle.lf_definitions.specs.ShapedGoals.{shaped_empty, scope_in, ShapedTypeIn, ShapedGoal, ShapedSignature, ShapedGoals}
use Rattle.lf_definitions.specs.Substitution.{substituted_empty}
use Rattle.lf_definitions.specs.Typing.{Typed, LfGoal, goal_type, type_of_metavariable}
use Rattle.lf_definitions.specs.Signatures.{LfSignature, typing_in}
use Rattle.lf_definitions.specs.GoalLists.{LfGoals, all_goals, ids, FormedGoals}
use Rattle.lf_definitions.specs.Instantiation.{Assignment, LfAssigned, assignment_of, InstantiatedGoal}
use Rattle.lf_definitions.proofs.Options.{Some-Some}
use Rattle.lf_definitions.proofs.ShapedGoals.{ShapedType-pis, shapes_of-typing_in}
use Rattle.lf_definitions.proofs.Typing.{Shaped-Typed}
use Rattle.lf_definitions.proofs.Uniqueness.{unique_type}
use Rattle.typing_laws.specs.InstantiationLaws.{KeepsGoal, TakesGoals}
use Rattle.typing_laws.proofs.ClosedTypes.{ShapedGoals-FormedGoals}
use Rattle.typing_laws.proofs.GoalLists.{type_of_goal, InstantiatedType-goal_type}
use Rattle.typing_laws.proofs.Instantiation.{instantiations_keep_types}
use Rattle.goal_lists.proofs.Laws.{shaped_goals_mention_no_others}
use Rattle.lf_functions.specs.Instances.{instance_of, instance_of_type, instance_of_goal}
use Rattle.lf_functions.specs.CompositionLaws.{instance_of_assigned, followed_by}
use Rattle.lf_functions.proofs.Compositions.{instances_compose}
use Rattle.lf_functions.proofs.InstanceLaws.{instances_go_part_by_part, instances_look_at_what_occurs}
use Rattle.lf_functions.proofs.Results.{instances_are_the_one_result}
use Rattle.application_laws.proofs.Members.{contains_in, in_contained, goal_is_in, instance_id}
use Rattle.alternatives.specs.ListsAfter.{then_assigned}
use Rattle.alternatives.specs.Taking.{Takes}
use Rattle.build_laws.specs.Laws.{NoneComesBack}
use Rattle.build_laws.proofs.Entries.{goal_of_number, assigned_then}
use Rattle.build_laws.proofs.Laws.{assignments_follow, nothing_is_taken}
use Rattle.typed_steps.specs.Laws.{KeepsTypes}

-- An assignment that takes shaped goals to others.
module _ (sig : LfSignature) (of_sig : ShapedSignature sig) (before after : LfGoals) (build : List LfAssigned) (shaped : ShapedGoals sig (all_goals before)) (takes : Takes sig before after build) where
  abbrev Before : List LfGoal
  Before = all_goals before

  abbrev After : List LfGoal
  After = all_goals after

  abbrev Instance : LfGoal → LfGoal
  Instance h = instance_of_goal Before (assignment_of build) h

  instance_taken : (h : LfGoal) → Contains Before h → InstantiatedGoal (assignment_of build) h (Instance h) × ShapedGoal sig After (Instance h)
  instance_taken h has =
      let one = (instances_are_the_one_result sig Before [] takes.goes.0 (scope_in sig After []) (assignment_of build) takes.goes.1).5 h (All-contains (ShapedGoal sig Before) Before h shaped.1 has) in
      ((one.0 (Instance h)).1 refl, one.1)

  instance_type_taken : (h : LfGoal) → Contains Before h → ShapedTypeIn sig After [] (goal_type (Instance h))
  instance_type_taken h has = let shaped_instance = (instance_taken h has).1 in ShapedType-pis (Instance h).context (atomic (Instance h).target) shaped_instance.0 shaped_instance.1

  instance_left : (h : LfGoal) → Contains Before h → assignment_of build h.id ≡ None → Contains After (Instance h)
  instance_left h has none =
      let there = (takes.assigned_or_left h.id (contains_in h.id (ids Before) (goal_is_in Before h has))).0 none in
      let k = goal_of_number After h.id (in_contained h.id (ids After) there) in
      subst (Contains After) (takes.left_under h k.0 has k.1 k.2) k.1

  -- It takes them with their types where each body has its goal's type.
  takes_typed : ((h : LfGoal) → Contains Before h → (u : LfTerm) → assignment_of build h.id ≡ Some u → Typed (typing_in sig After []) u (goal_type (Instance h))) → TakesGoals sig Before After (assignment_of build)
  takes_typed typed = record {
    of_signature = of_sig;
    of_goals = shaped;
    of_others = takes.shaped;
    keeps = All-weaker (Contains Before) (KeepsGoal sig After (assignment_of build)) each Before (All-contains_itself Before);
  }
    where
      each : (h : LfGoal) → Contains Before h → KeepsGoal sig After (assignment_of build) h
      each h has = (
        goal_type (Instance h),
        InstantiatedType-goal_type (assignment_of build) h (Instance h) (instance_taken h has).0,
        typed h has,
        λ none. ap (type_of_metavariable After) (sym (instance_id Before (assignment_of build) h)) ∙ type_of_goal After takes.shaped.0 (Instance h) (instance_left h has none),
      )

  -- The other way round.
  typed_taken : TakesGoals sig Before After (assignment_of build) → (h : LfGoal) → Contains Before h → (u : LfTerm) → assignment_of build h.id ≡ Some u → Typed (typing_in sig After []) u (goal_type (Instance h))
  typed_taken typed h has u e =
      let kept = All-contains (KeepsGoal sig After (assignment_of build)) Before h typed.keeps has in
      let same : kept.0 ≡ goal_type (Instance h) = unique_type kept.1 (InstantiatedType-goal_type (assignment_of build) h (Instance h) (instance_taken h has).0) in
      subst (Typed (typing_in sig After []) u) same (kept.2 u e)

-- Nothing is assigned.
pub nothing_keeps_types : (sig : LfSignature) → ShapedSignature sig → (list : LfGoals) → FormedGoals sig (all_goals list) → KeepsTypes sig list list []
nothing_keeps_types sig of_sig list formed =
    let shaped = ShapedGoals-FormedGoals sig (all_goals list) formed in
    record { formed = formed; takes_goals = takes_typed sig of_sig list list [] shaped (nothing_is_taken sig list shaped) (λ h has u e. absurd cc) }

module _ (sig : LfSignature) (of_sig : ShapedSignature sig) (before between after : LfGoals) (earlier later : List LfAssigned) (shaped : ShapedGoals sig (all_goals before))
    (first : Takes sig before between earlier) (second : Takes sig between after later) (none_comes_back : NoneComesBack before between after) where
  abbrev First : List LfGoal
  First = all_goals before

  abbrev Middle : List LfGoal
  Middle = all_goals between

  abbrev Last : List LfGoal
  Last = all_goals after

  abbrev σ : Assignment
  σ = assignment_of earlier

  abbrev τ : Assignment
  τ = assignment_of later

  abbrev Both : List LfAssigned
  Both = then_assigned (ids First) Middle earlier later

  abbrev ρ : Assignment
  ρ = assignment_of Both

  both_take : Takes sig before after Both
  both_take = (assignments_follow sig before between after earlier later shaped first second none_comes_back).0

  goal_follows : (h : LfGoal) → Contains First h → instance_of_goal First ρ h ≡ instance_of_goal Middle τ (instance_of_goal First σ h)
  goal_follows h has =
      (instances_look_at_what_occurs First ρ (followed_by Middle σ τ)).5 h (λ m o. assigned_then Middle later second.closed (ids First) earlier m (in_contained m (ids First) (closed m o)))
      ∙ sym ((instances_compose sig First Middle [] [] first.goes.0 second.goes.0 (scope_in sig Last []) σ τ first.goes.1 second.goes.1).5 h (All-contains (ShapedGoal sig First) First h shaped.1 has))
    where
      closed : (m : ℕ) → OccursInGoal (metavariable m) h → Contains (ids First) m
      closed = All-contains (λ x. (k : ℕ) → OccursInGoal (metavariable k) x → Contains (ids First) k) First h (shaped_goals_mention_no_others sig First shaped) has

  module _ (first_typed : TakesGoals sig First Middle σ) (second_typed : TakesGoals sig Middle Last τ) where
    body_follows : (h : LfGoal) → Contains First h → (u : LfTerm) → ρ h.id ≡ Some u → Typed (typing_in sig Last []) u (goal_type (instance_of_goal Middle τ (instance_of_goal First σ h)))
    body_follows h has u e = step (σ h.id) refl (sym (assigned_then Middle later second.closed (ids First) earlier h.id (goal_is_in First h has)) ∙ e)
      where
        middle : LfGoal
        middle = instance_of_goal First σ h

        Has : LfTerm → Type 0
        Has t = Typed (typing_in sig Last []) t (goal_type (instance_of_goal Middle τ middle))

        -- A body of the first is carried on by the second.
        carried : (v : LfTerm) → σ h.id ≡ Some v → Has (instance_of Middle τ v)
        carried v is =
            let typed = typed_taken sig of_sig before between earlier shaped first first_typed h has v is in
            let type_shaped = instance_type_taken sig of_sig before between earlier shaped first h has in
            let there = instances_are_the_one_result sig Middle [] second.goes.0 (scope_in sig Last []) τ second.goes.1 in
            let body = there.0 v _ (subst (λ Γ. Shaped Γ v (shape_of (goal_type middle))) (shapes_of-typing_in sig Middle []) (Shaped-Typed typed)) in
            let type = there.2 (goal_type middle) type_shaped in
            subst (Typed (typing_in sig Last []) (instance_of Middle τ v)) (sym ((instances_go_part_by_part Middle τ).6 middle))
            ((instantiations_keep_types sig Middle Last τ second_typed [] [] shaped_empty substituted_empty).0 v (instance_of Middle τ v) (goal_type middle) (instance_of_type Middle τ (goal_type middle)) type_shaped typed
            ((type.0 (instance_of_type Middle τ (goal_type middle))).1 refl) ((body.0 (instance_of Middle τ v)).1 refl))

        -- What the first leaves is assigned by the second.
        left : σ h.id ≡ None → τ h.id ≡ Some u → Has u
        left none found =
            typed_taken sig of_sig between after later first.shaped second second_typed middle (instance_left sig of_sig before between earlier shaped first h has none) u (ap τ (instance_id First σ h) ∙ found)

        step : (o : Option LfTerm) → σ h.id ≡ o → instance_of_assigned Middle τ h.id o ≡ Some u → Has u
        step None none found = left none found
        step (Some v) is found = subst Has (Some-Some found) (carried v is)

    types_follow : TakesGoals sig First Last ρ
    types_follow =
        takes_typed sig of_sig before after Both shaped both_take
        (λ h has u e. subst (λ k. Typed (typing_in sig Last []) u (goal_type k)) (sym (goal_follows h has)) (body_follows h has u e))

-- One after the other.
pub keeping_follows : (sig : LfSignature) (before between after : LfGoals) (earlier later : List LfAssigned) → Takes sig before between earlier → Takes sig between after later → NoneComesBack before between after →
    KeepsTypes sig before between earlier → KeepsTypes sig between after later → KeepsTypes sig before after (then_assigned (ids (all_goals before)) (all_goals between) earlier later)
keeping_follows sig before between after earlier later first second none_comes_back kept more = record {
  formed = more.formed;
  takes_goals = types_follow sig kept.takes_goals.of_signature before between after earlier later kept.takes_goals.of_goals first second none_comes_back kept.takes_goals more.takes_goals;
}
