-- Tests of entries: one after another, and by the kernel's check of a body in its goal's context.
use Rattle.std.proofs.Common.{◌≡◌, ℕ, zero, suc, ◌+◌, ◌<◌, ◌≤◌, Bool, true, false, Some, List, [], ◌∷◌, ◌++◌, length, get_or, take, take_all, map, refl, sym, ap, ap₂, ◌∙◌, subst, arith}
use Rattle.std.specs.Prelude.{◌&&◌, Contains}
use Rattle.std.proofs.lemmas.List.{map-append}
use Rattle.std.proofs.lemmas.List.Elements.{All-contains}
use Rattle.lf_definitions.specs.Syntax.{lams, atomic}
use Rattle.lf_definitions.specs.ShapedGoals.{ShapedGoal}
use Rattle.lf_definitions.specs.Typing.{LfGoal, goal_type}
use Rattle.lf_definitions.specs.Signatures.{LfSignature, typing_in}
use Rattle.lf_definitions.specs.Instantiation.{Assignment, InstantiatedGoal}
use Rattle.lf_definitions.proofs.TypingLaws.{failures_exclude_derivations}
use Rattle.lf_terms.specs.declared.goal.Goal.{Goal}
use Rattle.lf_terms.specs.Targets.{goal_of}
use Rattle.lf_terms.proofs.ShapeLists.{take_read}
use Rattle.head_laws.proofs.Results.{length-shapes_of_types}
use Rattle.lf_functions.specs.Instances.{instance_of_goal}
use Rattle.lf_functions.specs.Checking.{has_type}
use Rattle.lf_functions.proofs.InstanceLaws.{instances_go_part_by_part, instances_keep_shapes}
use Rattle.applications.specs.Applications.{entries_are_typed, is_typed_entry}
use Rattle.completion_laws.proofs.Bodies.{bodies_are_tested}
use Rattle.meta_goals.specs.Bindings.{LfBinding, assigning, binding_for}
use Rattle.meta_goals.proofs.BindingLaws.{bound_goals_have_their_shapes}
use Rattle.meta_goals.proofs.LeftGoals.{is_assigned}
use Rattle.lf_kernel.specs.Checks.{Checks}
use Rattle.lf_kernel.specs.declared.answer.Check.{Check}
use Rattle.lf_kernel.specs.declared.answer.Check.TheVariants.{Well, Ill}
use Rattle.build_shared.specs.Checked.{found_well}
use Rattle.build_shared.specs.Remaining.{CanLeave}
use Rattle.build_shared.specs.Whole.{MayBeTested}
use Rattle.build_shared.proofs.InstancesAmong.{can_leave, instance_is_shaped}
use Rattle.build_shared.proofs.UnifierEnds.{goal_shape, context_shapes}

module _ (sig : LfSignature) (goals : List LfGoal) (σ : Assignment) (list : List LfGoal) where
  pub entries-append : (xs ys : List LfGoal) → entries_are_typed sig goals σ list (xs ++ ys) ≡ entries_are_typed sig goals σ list xs && entries_are_typed sig goals σ list ys
  entries-append [] ys = refl
  entries-append (h ∷ rest) ys = step (is_typed_entry sig list (σ h.id) (instance_of_goal goals σ h)) (entries-append rest ys)
    where
      step : (b : Bool) → entries_are_typed sig goals σ list (rest ++ ys) ≡ entries_are_typed sig goals σ list rest && entries_are_typed sig goals σ list ys →
          b && entries_are_typed sig goals σ list (rest ++ ys) ≡ (b && entries_are_typed sig goals σ list rest) && entries_are_typed sig goals σ list ys
      step true later = later
      step false later = refl

  one_test : (h : LfGoal) → is_typed_entry sig list (σ h.id) (instance_of_goal goals σ h) ≡ entries_are_typed sig goals σ list (h ∷ [])
  one_test h = step (is_typed_entry sig list (σ h.id) (instance_of_goal goals σ h))
    where
      step : (b : Bool) → b ≡ b && true
      step true = refl
      step false = refl

  pub tested_more : (xs : List Goal) (i : ℕ) (x : Goal) → i < length xs → x ≡ get_or xs i x → entries_are_typed sig goals σ list (map goal_of (take i xs)) ≡ true →
      is_typed_entry sig list (σ x.id) (instance_of_goal goals σ (goal_of x)) ≡ true → entries_are_typed sig goals σ list (map goal_of (take (i + 1) xs)) ≡ true
  tested_more xs i x within is so_far here =
      ap (λ l. entries_are_typed sig goals σ list (map goal_of l)) (take_read xs i x within is) ∙ ap (entries_are_typed sig goals σ list) (map-append goal_of (take i xs) (x ∷ []))
      ∙ entries-append (map goal_of (take i xs)) (goal_of x ∷ []) ∙ ap₂ (λ a b. a && b) so_far (sym (one_test (goal_of x)) ∙ here)

  pub tested_all : (xs : List Goal) (i : ℕ) (some : List LfGoal) → length xs ≤ i → map goal_of xs ≡ some → entries_are_typed sig goals σ list (map goal_of (take i xs)) ≡ true → true ≡ entries_are_typed sig goals σ list some
  tested_all xs i some end are so_far = sym so_far ∙ ap (λ l. entries_are_typed sig goals σ list (map goal_of l)) (take_all i xs end) ∙ ap (entries_are_typed sig goals σ list) are

  failing : (xs : List Goal) (i : ℕ) (x : Goal) → i < length xs → x ≡ get_or xs i x → is_typed_entry sig list (σ x.id) (instance_of_goal goals σ (goal_of x)) ≡ false → false ≡ entries_are_typed sig goals σ list (map goal_of xs)
  failing [] i x within is fails = absurd (omega (arith, within))
  failing (y ∷ xs) zero x within is fails =
      sym (ap (λ b. b && entries_are_typed sig goals σ list (map goal_of xs)) (subst (λ (z : Goal). is_typed_entry sig list (σ z.id) (instance_of_goal goals σ (goal_of z)) ≡ false) is fails))
  failing (y ∷ xs) (suc i) x within is fails = step (is_typed_entry sig list (σ y.id) (instance_of_goal goals σ (goal_of y))) (failing xs i x (omega (arith, within)) is fails)
    where
      step : (b : Bool) → false ≡ entries_are_typed sig goals σ list (map goal_of xs) → false ≡ b && entries_are_typed sig goals σ list (map goal_of xs)
      step true later = later
      step false later = refl

  pub fails_all : (xs : List Goal) (i : ℕ) (x : Goal) (some : List LfGoal) → i < length xs → x ≡ get_or xs i x → map goal_of xs ≡ some → is_typed_entry sig list (σ x.id) (instance_of_goal goals σ (goal_of x)) ≡ false →
      false ≡ entries_are_typed sig goals σ list some
  fails_all xs i x some within is are fails = failing xs i x within is fails ∙ ap (entries_are_typed sig goals σ list) are

  -- three lists, one after another
  pub three_tests : (ps ws fs : List LfGoal) (a b c : Bool) → a ≡ entries_are_typed sig goals σ list ps → b ≡ entries_are_typed sig goals σ list ws → c ≡ entries_are_typed sig goals σ list fs →
      (a && b) && c ≡ entries_are_typed sig goals σ list ((ps ++ ws) ++ fs)
  three_tests ps ws fs a b c p w f = ap₂ (λ k l. k && l) (ap₂ (λ k l. k && l) p w ∙ sym (entries-append ps ws)) f ∙ sym (entries-append (ps ++ ws) fs)

module _ (sig : LfSignature) (goals : List LfGoal) (bindings : List LfBinding) (list : List LfGoal) (may : MayBeTested sig goals bindings list) (g : LfGoal) (there : Contains goals g) where
  shaped : ShapedGoal sig goals g
  shaped = All-contains (ShapedGoal sig goals) goals g may.of_goals.1 there

  pub test_can_leave : CanLeave goals bindings g
  test_can_leave = can_leave sig goals list bindings may.closed may.goes may.have_shapes g shaped

  abbrev Instance : LfGoal
  Instance = instance_of_goal goals (assigning bindings) g

  pub test_shaped : (h : LfGoal) → InstantiatedGoal (assigning bindings) g h → ShapedGoal sig list h
  test_shaped h result = subst (ShapedGoal sig list) (sym (test_can_leave.only h result)) (instance_is_shaped sig goals list bindings may.closed may.goes may.have_shapes g shaped)

  module _ (b : LfBinding) (found : binding_for bindings g.id ≡ Some b) where
    count : length b.shapes ≡ length Instance.context
    count =
        ap length (context_shapes g b.shapes (bound_goals_have_their_shapes sig goals bindings may.have_shapes [] g.id _ b (goal_shape sig goals may.of_goals.0 g there) found))
        ∙ length-shapes_of_types g.context
        ∙ sym ((instances_keep_shapes goals (assigning bindings)).2 g.context) ∙ sym (ap length ((instances_go_part_by_part goals (assigning bindings)).5 g))

    test_is : is_typed_entry sig list (assigning bindings g.id) Instance ≡ has_type sig list [] (lams (length Instance.context) b.bound_body) (goal_type Instance)
    test_is = ap (λ o. is_typed_entry sig list o Instance) (is_assigned bindings g.id b found) ∙ ap (λ n. has_type sig list [] (lams n b.bound_body) (goal_type Instance)) count

    pub tested : (h : LfGoal) → InstantiatedGoal (assigning bindings) g h → (answer : Check) → Checks (typing_in sig list h.context) b.bound_body (atomic h.target) answer →
        found_well answer ≡ is_typed_entry sig list (assigning bindings g.id) Instance
    tested h result answer checks =
        by_check answer (subst (λ (k : LfGoal). Checks (typing_in sig list k.context) b.bound_body (atomic k.target) answer) (test_can_leave.only h result) checks) ∙ sym test_is
      where
        by_check : (answer : Check) → Checks (typing_in sig list Instance.context) b.bound_body (atomic Instance.target) answer → found_well answer ≡ has_type sig list [] (lams (length Instance.context) b.bound_body) (goal_type Instance)
        by_check Well typed = sym ((bodies_are_tested sig list may.of_signature may.shaped Instance (instance_is_shaped sig goals list bindings may.closed may.goes may.have_shapes g shaped) b.bound_body).1 typed)
        by_check (Ill path) fails = refuted (has_type sig list [] (lams (length Instance.context) b.bound_body) (goal_type Instance)) (λ e. failures_exclude_derivations.0 (typing_in sig list Instance.context) b.bound_body (atomic Instance.target) path fails
            ((bodies_are_tested sig list may.of_signature may.shaped Instance (instance_is_shaped sig goals list bindings may.closed may.goes may.have_shapes g shaped) b.bound_body).0 e))
          where
            refuted : (test : Bool) → (test ≡ true → ⊥) → false ≡ test
            refuted true none = absurd (none refl)
            refuted false none = refl
