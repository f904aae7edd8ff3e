-- The assignment of an application takes the goals to the list after, where each body has its goal's type there. So it is where the goal is closed.
use Rattle.std.proofs.Common.{◌≡◌, ℕ, true, Some, List, [], ◌∷◌, map, All, length, refl, sym, ap, ◌∙◌, subst}
use Rattle.std.specs.Prelude.{if◌then◌else◌, Contains}
use Rattle.std.proofs.lemmas.Bool.{eq-eqb}
use Rattle.std.proofs.lemmas.List.Elements.{All-nil, All-append, All-weaker, All-contains, All-contains_itself}
use Rattle.lf_definitions.specs.Syntax.{metavariable, LfTerm, lams, LfType, atomic, Context, pis}
use Rattle.lf_definitions.specs.Occurrence.{OccursIn}
use Rattle.lf_definitions.specs.ShapedGoals.{shaped_empty, scope_in, ShapedTypeIn, ShapedGoal}
use Rattle.lf_definitions.specs.Typing.{Typing, with_variable, with_context, Typed, typed_lam, LfGoal, goal_type, type_of_metavariable}
use Rattle.lf_definitions.specs.Signatures.{LfSignature, typing_in}
use Rattle.lf_definitions.specs.GoalLists.{LfGoals}
use Rattle.lf_definitions.specs.Instantiation.{assignment_of, InstantiatedGoal}
use Rattle.lf_definitions.proofs.ShapedGoals.{ShapedType-pis}
use Rattle.typing_laws.specs.InstantiationLaws.{KeepsGoal, TakesGoals}
use Rattle.typing_laws.proofs.FoundGoals.{found}
use Rattle.typing_laws.proofs.GoalLists.{type_of_goal, InstantiatedType-goal_type}
use Rattle.goal_lists.proofs.Leaving.{All-parts}
use Rattle.lf_functions.specs.Instances.{instance_of_goal}
use Rattle.lf_functions.specs.Checking.{has_type}
use Rattle.lf_functions.proofs.Results.{instances_are_the_one_result}
use Rattle.lf_functions.proofs.InstanceLaws.{instances_go_part_by_part, instances_keep_shapes}
use Rattle.lf_functions.proofs.CheckingLaws.{has_type_is_typing, has_type_looks_at_what_occurs, has_type_knows_what_occurs}
use Rattle.applications.specs.Methods.{LfCandidate}
use Rattle.applications.specs.Applications.{LfApplication, entry_of, put_into, goals_left, is_typed_entry}
use Rattle.application_laws.proofs.Members.{goal_is_in, instance_id}
use Rattle.step_laws.proofs.Found.{All-goals_left}
use Rattle.typed_steps.proofs.Tests.{IsTested, each_tested}
use Rattle.typed_steps.proofs.Situations.{IsMade, shaped_signature, one_of, is_step}
use Rattle.typed_steps.proofs.Remaining.{Old, Everything, Whole, Put, Left, After, shaped_old, shaped_after, put_is_whole, old_instance, old_stays, all_stay}

pub under_typed_lams : (cs : Context) (Θ : Typing) (body : LfTerm) (end : LfType) → Typed Θ (lams (length cs) body) (pis cs end) → Typed (with_context cs Θ) body end
under_typed_lams [] Θ body end p = p
under_typed_lams (c ∷ cs) Θ body end (typed_lam p) = under_typed_lams cs (with_variable c Θ) body end p

module _ (sig : LfSignature) (list : LfGoals) (n : ℕ) (g : LfGoal) (c : LfCandidate) (a : LfApplication) (m : IsMade sig list n g c a) where
  abbrev Before : List LfGoal
  Before = Old sig list n g c a m

  abbrev Later : List LfGoal
  Later = After sig list n g c a m

  abbrev Instance : LfGoal → LfGoal
  Instance h = instance_of_goal Before (Put sig list n g c a m) h

  pub instance_there : (h : LfGoal) → Contains Before h → InstantiatedGoal (Put sig list n g c a m) h (Instance h) × ShapedGoal sig Later (Instance h)
  instance_there h has =
      let goes = (is_step sig list n g c a m).takes.goes in
      let one = (instances_are_the_one_result sig Before [] goes.0 (scope_in sig Later []) (Put sig list n g c a m) goes.1).5 h (All-contains (ShapedGoal sig Before) Before h (shaped_old sig list n g c a m).1 has) in
      ((one.0 (Instance h)).1 refl, one.1)

  instance_type_shaped : (h : LfGoal) → Contains Before h → ShapedTypeIn sig Later [] (goal_type (Instance h))
  instance_type_shaped h has = let shaped = (instance_there h has).1 in ShapedType-pis (Instance h).context (atomic (Instance h).target) shaped.0 shaped.1

  abbrev pub BodiesAreTyped : Type 0
  BodiesAreTyped = (h : LfGoal) → Contains Before h → (u : LfTerm) → Put sig list n g c a m h.id ≡ Some u → Typed (typing_in sig Later []) u (goal_type (Instance h))

  pub takes_goals : BodiesAreTyped → TakesGoals sig Before Later (Put sig list n g c a m)
  takes_goals typed = record {
    of_signature = shaped_signature sig list n g c a m;
    of_goals = shaped_old sig list n g c a m;
    of_others = shaped_after sig list n g c a m;
    keeps = All-weaker (Contains Before) (KeepsGoal sig Later (Put sig list n g c a m)) each Before (All-contains_itself Before);
  }
    where
      each : (h : LfGoal) → Contains Before h → KeepsGoal sig Later (Put sig list n g c a m) h
      each h has = (
        goal_type (Instance h),
        InstantiatedType-goal_type (Put sig list n g c a m) h (Instance h) (instance_there h has).0,
        typed h has,
        λ none. ap (type_of_metavariable Later) (sym (instance_id Before (Put sig list n g c a m) h)) ∙ type_of_goal Later (shaped_after sig list n g c a m).0 (Instance h) (old_stays sig list n g c a m h has none),
      )

  -- What is known among goals of the list after is known there.
  known_after : (xs : List LfGoal) → All (Contains Later) xs → (k : ℕ) (b : LfType) → type_of_metavariable xs k ≡ Some b → type_of_metavariable Later k ≡ Some b
  known_after xs all k b e =
      let r = found (Contains Later) xs all k b e in
      ap (type_of_metavariable Later) (sym r.1) ∙ type_of_goal Later (shaped_after sig list n g c a m).0 r.0 r.3 ∙ ap Some r.2

  pub remaining_after : All (Contains Later) (goals_left (Everything sig list n g c a m) (Whole sig list n g c a m) (Everything sig list n g c a m))
  remaining_after = All-goals_left (Contains Later) (Everything sig list n g c a m) (Whole sig list n g c a m) (Everything sig list n g c a m) (all_stay sig list n g c a m)

  pub old_of_everything : (h : LfGoal) → Contains Before h → Contains (Everything sig list n g c a m) h
  old_of_everything h has =
      All-contains (Contains (Everything sig list n g c a m)) Before h (All-parts (Contains (Everything sig list n g c a m)) Before c.opened.fresh (All-contains_itself (Everything sig list n g c a m))).0 has

  -- The test of an old goal's entry.
  pub old_tested : (h : LfGoal) → Contains Before h → (u : LfTerm) → Put sig list n g c a m h.id ≡ Some u → has_type sig (Left sig list n g c a m) [] u (goal_type (Instance h)) ≡ true
  old_tested h has u e =
      let everything = Everything sig list n g c a m in
      let whole = Whole sig list n g c a m in
      let left = Left sig list n g c a m in
      let test = All-contains (IsTested sig everything whole left) everything h (each_tested sig everything whole left everything m.counted.are_typed) (old_of_everything h has) in
      let there : whole h.id ≡ Some u = sym (put_is_whole sig list n g c a m h.id (goal_is_in Before h has)) ∙ e in
      sym (ap (λ x. has_type sig left [] u (goal_type x)) (old_instance sig list n g c a m h has))
      ∙ sym (ap (λ o. is_typed_entry sig left o (instance_of_goal everything whole h)) there) ∙ test

  module _ (none : m.counted.done.more ≡ []) where
    left_after : All (Contains Later) (Left sig list n g c a m)
    left_after =
        All-append (Contains Later) (goals_left (Everything sig list n g c a m) (Whole sig list n g c a m) (Everything sig list n g c a m)) m.counted.done.more remaining_after
        (subst (All (Contains Later)) (sym none) (All-nil (Contains Later)))

    pub closing_bodies_typed : BodiesAreTyped
    closing_bodies_typed h has u e =
        let left = Left sig list n g c a m in
        let type = goal_type (Instance h) in
        let test = old_tested h has u e in
        (has_type_is_typing sig Later [] (shaped_signature sig list n g c a m) (shaped_after sig list n g c a m) shaped_empty u type (instance_type_shaped h has)).0
        (has_type_looks_at_what_occurs sig left Later [] u (agree test) type ∙ test)
      where
        agree : has_type sig (Left sig list n g c a m) [] u (goal_type (Instance h)) ≡ true → (k : ℕ) → OccursIn (metavariable k) u → type_of_metavariable (Left sig list n g c a m) k ≡ type_of_metavariable Later k
        agree test k o =
            let known = has_type_knows_what_occurs sig (Left sig list n g c a m) [] u (goal_type (Instance h)) test k o in
            known.1 ∙ sym (known_after (Left sig list n g c a m) left_after k known.0 known.1)

  -- The goal itself has an entry.
  abbrev pub Body : LfTerm
  Body = lams (length g.context) m.counted.done.becomes_term

  pub goal_is_put : Put sig list n g c a m g.id ≡ Some Body
  goal_is_put =
      put_is_whole sig list n g c a m g.id (goal_is_in Before g (one_of sig list n g c a m))
      ∙ ap (λ b. if b then Some Body else assignment_of (map (put_into (Everything sig list n g c a m) (entry_of g m.counted.done.becomes_term)) m.counted.entries) g.id) (eq-eqb g.id g.id refl)

  abbrev pub Goal : LfGoal
  Goal = Instance g

  pub same_length : length Goal.context ≡ length g.context
  same_length = ap length ((instances_go_part_by_part Before (Put sig list n g c a m)).5 g) ∙ (instances_keep_shapes Before (Put sig list n g c a m)).2 g.context

  -- What the goal becomes is typed in its instance, where the body is typed.
  pub becomes_typed : BodiesAreTyped → Typed (typing_in sig Later Goal.context) m.counted.done.becomes_term (atomic Goal.target)
  becomes_typed typed =
      under_typed_lams Goal.context (typing_in sig Later []) m.counted.done.becomes_term (atomic Goal.target)
      (subst (λ l. Typed (typing_in sig Later []) (lams l m.counted.done.becomes_term) (goal_type Goal)) (sym same_length) (typed g (one_of sig list n g c a m) Body goal_is_put))
