-- A list in which a head stands for a goal of the base is shaped where the head is, in the list before and in the list after.
use Rattle.std.proofs.Common.{◌≡◌, ℕ, Option, Some, None, List, [], ◌++◌, Bool, true, false, refl, sym, ap, ◌∙◌, subst, append-nil}
use Rattle.std.specs.Prelude.{if◌then◌else◌, nat_eq}
use Rattle.std.proofs.lemmas.Bool.{eqb-true}
use Rattle.std.proofs.lemmas.List.Elements.{All-contains_itself}
use Rattle.lf_definitions.specs.Syntax.{LfHead, metavariable, LfTerm, Spine, at, no_args, SimpleType, base, arrows, shapes_of_types}
use Rattle.lf_definitions.specs.Shaping.{Scope, Shaped, ShapedSpine, shaped_at, shaped_none, shapes_in}
use Rattle.lf_definitions.specs.ShapedGoals.{kind_shapes_in, scope_in, shapes_of_goals, ShapedGoals}
use Rattle.lf_definitions.specs.Replacements.{Goes}
use Rattle.lf_definitions.specs.Signatures.{LfSignature, constant_types}
use Rattle.lf_definitions.specs.Typing.{LfGoal}
use Rattle.lf_definitions.specs.GoalLists.{LfGoals, all_goals}
use Rattle.lf_definitions.specs.Instantiation.{Assignment, instantiating}
use Rattle.lf_definitions.proofs.Options.{Some_inj}
use Rattle.goal_lists.specs.Assigning.{Leaves, LeavesGoals}
use Rattle.goal_lists.proofs.Laws.{goals_that_are_left_are_shaped}
use Rattle.goal_lists.proofs.Leaving.{Leaves-append}
use Rattle.lf_functions.specs.Instances.{goals_depth}
use Rattle.opening_laws.proofs.Numbers.{found_shape}
use Rattle.applications.specs.Applications.{goals_left}
use Rattle.completion_laws.proofs.LeftGoals.{what_is_left_is_goals_left, left_shape}
use Rattle.completion_laws.proofs.Scopes.{goes_from, closed_among}
use Rattle.meta_goals.specs.Bindings.{LfBinding, assigning, binding_for}
use Rattle.meta_goals.specs.Instantiates.{Instantiates, GoalsAreShaped}
use Rattle.step_tests.specs.PutHeads.{bare, put_head}

base_alone : (Γ : Scope) (s : SimpleType) → ShapedSpine Γ no_args s → s ≡ base
base_alone Γ s shaped_none = refl

-- A head without arguments that is shaped where shapes are kept is shaped among the goals.
pub head_among : (sig : LfSignature) (list : LfGoals) (h : LfHead) (shapes ctx args : List SimpleType) (all : List LfGoal) (metas : List (ℕ × SimpleType)) (ts : Spine) →
    shapes ≡ shapes_of_types (constant_types sig) → all ≡ all_goals list → metas ≡ shapes_of_goals all → ctx ≡ [] → ts ≡ no_args → args ≡ [] →
    Shaped (shapes_in shapes metas ctx) (at h ts) (arrows args base) → Shaped (scope_in sig (all_goals list) []) (bare h) base
head_among sig list h shapes ctx args all metas ts shapes_are all_are metas_are no_ctx no_terms none shaped =
    subst (λ l. Shaped (scope_in sig l []) (bare h) base) all_are
    (subst (λ xs. Shaped (shapes_in xs (shapes_of_goals all) []) (bare h) base) shapes_are
    (subst (λ ms. Shaped (shapes_in shapes ms []) (bare h) base) metas_are
    (subst (λ xs. Shaped (shapes_in shapes metas xs) (bare h) base) no_ctx
    (subst (λ xs. Shaped (shapes_in shapes metas ctx) (at h xs) base) no_terms
    (subst (λ xs. Shaped (shapes_in shapes metas ctx) (at h ts) (arrows xs base)) none shaped)))))

-- a head without arguments has the shape of the base
head_is_base : (Γ : Scope) (h : LfHead) → Shaped Γ (bare h) base → Γ h ≡ Some base
head_is_base Γ h (shaped_at s is spine) = is ∙ ap Some (base_alone Γ s spine)

module _ (sig : LfSignature) (list : LfGoals) (shaped : ShapedGoals sig (all_goals list)) (g : ℕ) (h : LfHead)
    (goal : Shaped (scope_in sig (all_goals list) []) (bare (metavariable g)) base) (head : Shaped (scope_in sig (all_goals list) []) (bare h) base) where
  abbrev σ : Assignment
  σ = assigning (put_head g h)

  abbrev Before : Scope
  Before = scope_in sig (all_goals list) []

  at_base : (m : ℕ) → nat_eq g m ≡ true → Before (metavariable m) ≡ Some base
  at_base m same = ap (λ k. Before (metavariable k)) (sym (eqb-true g m same)) ∙ head_is_base Before (metavariable g) goal

  put_if : (m : ℕ) (b : Bool) (u : LfTerm) (s : SimpleType) (Δ : Scope) → nat_eq g m ≡ b → Shaped Δ (bare h) base → Before (metavariable m) ≡ Some s →
      (if b then Some (bare h) else None) ≡ Some u → Shaped Δ u s
  put_if m true u s Δ same fits known is = subst (λ x. Shaped Δ x s) (Some_inj refl is) (subst (Shaped Δ (bare h)) (Some_inj (at_base m same) known) fits)
  put_if m false u s Δ same fits known is = absurd cc

  put : (Δ : Scope) → Shaped Δ (bare h) base → (m : ℕ) (s : SimpleType) (u : LfTerm) → Before (metavariable m) ≡ Some s → σ m ≡ Some u → Shaped Δ u s
  put Δ fits m s u known is = put_if m (nat_eq g m) u s Δ refl fits known is

  goes : Goes (goals_depth (all_goals list)) Before Before (instantiating σ)
  goes = goes_from sig (all_goals list) (all_goals list) σ (put Before head) (λ m s known none. known)

  closed_if : (m : ℕ) (b : Bool) (u : LfTerm) → (if b then Some (bare h) else None) ≡ Some u → (s : SimpleType) × Shaped Before u s
  closed_if m true u is = (base, subst (λ x. Shaped Before x base) (Some_inj refl is) head)
  closed_if m false u is = absurd cc

  context_if : (m : ℕ) (b : Bool) (s : SimpleType) (x : LfBinding) → nat_eq g m ≡ b → Before (metavariable m) ≡ Some s →
      (if b then Some (record { number = g; shapes = []; bound_body = bare h }) else None) ≡ Some x → s ≡ arrows x.shapes base
  context_if m true s x same known is = Some_inj known (at_base m same) ∙ ap (λ (b : LfBinding). arrows b.shapes base) (Some_inj refl is)
  context_if m false s x same known is = absurd cc

  -- The head may be put for the goal.
  pub may_be_put : Instantiates (put_head g h) (GoalsAreShaped (all_goals list))
  may_be_put = record {
    size = goals_depth (all_goals list);
    outer = Before;
    target = Before;
    goes = goes;
    closed = closed_among sig (all_goals list) σ (λ m u is. closed_if m (nat_eq g m) u is);
    contexts = λ m s x known is. context_if m (nat_eq g m) s x refl known is;
    shaped = (kind_shapes_in sig, shaped.1);
  }

  module _ (left : LfGoals) (leaves : LeavesGoals σ list left) (fits : Shaped (scope_in sig (all_goals left) []) (bare h) base) where
    left_is : all_goals left ≡ goals_left (all_goals list) σ (all_goals list)
    left_is =
        what_is_left_is_goals_left sig (all_goals list) (all_goals list) σ shaped (goals_depth (all_goals list), goes) (all_goals list) (all_goals left)
        (All-contains_itself (all_goals list)) (Leaves-append leaves.of_proofs leaves.of_witnesses)

    known_after : (m : ℕ) (s : SimpleType) → found_shape (all_goals list) m ≡ Some s → σ m ≡ None → found_shape (all_goals left) m ≡ Some s
    known_after m s known none =
        ap (λ xs. found_shape xs m) (left_is ∙ sym (append-nil (goals_left (all_goals list) σ (all_goals list))))
        ∙ left_shape (all_goals list) σ (all_goals list) [] m none
        ∙ ap (λ xs. found_shape xs m) (append-nil (all_goals list))
        ∙ known

    pub left_is_shaped : ShapedGoals sig (all_goals left)
    left_is_shaped =
        goals_that_are_left_are_shaped sig list left σ shaped
        (goals_depth (all_goals list), goes_from sig (all_goals list) (all_goals left) σ (put (scope_in sig (all_goals left) []) fits) known_after) leaves
