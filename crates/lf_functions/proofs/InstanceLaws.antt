-- The further laws of instances, as they are stated.
use Rattle.std.proofs.Common.{◌≡◌, ℕ, List, None, refl, sym, ap, ◌∙◌}
use Rattle.lf_definitions.specs.Syntax.{LfHead, bound, constant, metavariable, LfType, shapes_size}
use Rattle.lf_definitions.specs.Substitution.{stays, push_all}
use Rattle.lf_definitions.specs.Occurrence.{OccursIn, OccursInSpine, OccursInType, OccursInContext, OccursInGoal}
use Rattle.lf_definitions.specs.Typing.{LfGoal, goal_type}
use Rattle.lf_definitions.specs.Instantiation.{Assignment, assigned, instantiating}
use Rattle.lf_functions.specs.Instances.{goals_depth, instance_of, instance_of_spine, instance_of_type, instance_of_atom, instance_of_context, instance_of_goal, result_of, result_of_spine, result_of_type, result_of_atom, result_of_context}
use Rattle.lf_functions.specs.InstanceLaws.{InstancesGoPartByPart, InstancesKeepShapes, ResultsGoPartByPart, InstancesLookAtWhatOccurs, UnassignedInstancesAreTheSame}
use Rattle.lf_functions.proofs.Parts.{replaced_in_spine-no_args, replaced_in_spine-arg, replaced_in_type-family, replaced_in_type-atomic, shape_of-replaced_in_type, shapes_of_types-replaced_in_context, length-replaced_in_context, goal_type-instance_of_goal, goal_is_known}
use Rattle.lf_functions.proofs.Agreement.{AgreeOn, replaced-agree, replaced_in_spine-agree, replaced_in_type-agree, replaced_in_atom-agree, replaced_in_context-agree, replaced-stays, replaced_in_spine-stays, replaced_in_type-stays, replaced_in_atom-stays, replaced_in_context-stays}

id-instance_of_goal : (goals : List LfGoal) (σ : Assignment) (g : LfGoal) → (instance_of_goal goals σ g).id ≡ g.id
unfolding instance_of_goal
id-instance_of_goal goals σ g = refl

context-instance_of_goal : (goals : List LfGoal) (σ : Assignment) (g : LfGoal) → (instance_of_goal goals σ g).context ≡ instance_of_context goals σ g.context
unfolding instance_of_goal instance_of_context
context-instance_of_goal goals σ g = refl

pub instances_go_part_by_part : InstancesGoPartByPart
unfolding instance_of instance_of_spine instance_of_type instance_of_atom
instances_go_part_by_part goals σ =
    let d = goals_depth goals in
    let r = instantiating σ in
    (replaced_in_spine-no_args d r, replaced_in_spine-arg d r, replaced_in_type-family d r, replaced_in_type-atomic d r, id-instance_of_goal goals σ, context-instance_of_goal goals σ, goal_type-instance_of_goal goals σ)

pub instances_keep_shapes : InstancesKeepShapes
unfolding instance_of_type instance_of_context
instances_keep_shapes goals σ =
    let d = goals_depth goals in
    let r = instantiating σ in
    (shape_of-replaced_in_type d r, shapes_of_types-replaced_in_context d r, length-replaced_in_context d r)

pub results_go_part_by_part : ResultsGoPartByPart
unfolding result_of result_of_spine result_of_type result_of_atom result_of_context
results_go_part_by_part shapes sub =
    let d = shapes_size shapes in
    let r = push_all sub stays in
    (replaced_in_spine-no_args d r, replaced_in_spine-arg d r, replaced_in_type-family d r, replaced_in_type-atomic d r, shape_of-replaced_in_type d r, shapes_of_types-replaced_in_context d r)

-- Assignments that agree on the metavariables of which something holds agree as replacements.
agree_on_heads : (P : LfHead → Type 0) (σ τ : Assignment) → ((g : ℕ) → P (metavariable g) → σ g ≡ τ g) → AgreeOn P (instantiating σ) (instantiating τ)
agree_on_heads P σ τ agree (bound n) o = refl
agree_on_heads P σ τ agree (constant c) o = refl
agree_on_heads P σ τ agree (metavariable g) o = ap (assigned g) (agree g o)

stay_on_heads : (P : LfHead → Type 0) (σ : Assignment) → ((g : ℕ) → P (metavariable g) → σ g ≡ None) → AgreeOn P (instantiating σ) stays
stay_on_heads P σ none (bound n) o = refl
stay_on_heads P σ none (constant c) o = refl
stay_on_heads P σ none (metavariable g) o = ap (assigned g) (none g o)

type_agrees : (goals : List LfGoal) (σ τ : Assignment) (a : LfType) → ((g : ℕ) → OccursInType (metavariable g) a → σ g ≡ τ g) → instance_of_type goals σ a ≡ instance_of_type goals τ a
unfolding instance_of_type
type_agrees goals σ τ a agree = replaced_in_type-agree (goals_depth goals) a (instantiating σ) (instantiating τ) (agree_on_heads (λ h. OccursInType h a) σ τ agree)

type_stays : (goals : List LfGoal) (σ : Assignment) (a : LfType) → ((g : ℕ) → OccursInType (metavariable g) a → σ g ≡ None) → instance_of_type goals σ a ≡ a
unfolding instance_of_type
type_stays goals σ a none = replaced_in_type-agree (goals_depth goals) a (instantiating σ) stays (stay_on_heads (λ h. OccursInType h a) σ none) ∙ replaced_in_type-stays (goals_depth goals) a

goal_agrees : (goals : List LfGoal) (σ τ : Assignment) (h : LfGoal) → ((g : ℕ) → OccursInGoal (metavariable g) h → σ g ≡ τ g) → instance_of_goal goals σ h ≡ instance_of_goal goals τ h
unfolding instance_of_goal
goal_agrees goals σ τ h agree =
    goal_is_known (instance_of_goal goals σ h) (instance_of_goal goals τ h) refl
    (goal_type-instance_of_goal goals σ h ∙ type_agrees goals σ τ (goal_type h) agree ∙ sym (goal_type-instance_of_goal goals τ h))

goal_stays : (goals : List LfGoal) (σ : Assignment) (h : LfGoal) → ((g : ℕ) → OccursInGoal (metavariable g) h → σ g ≡ None) → instance_of_goal goals σ h ≡ h
unfolding instance_of_goal
goal_stays goals σ h none = goal_is_known (instance_of_goal goals σ h) h refl (goal_type-instance_of_goal goals σ h ∙ type_stays goals σ (goal_type h) none)

pub instances_look_at_what_occurs : InstancesLookAtWhatOccurs
unfolding instance_of instance_of_spine instance_of_atom instance_of_context
instances_look_at_what_occurs goals σ τ =
    let d = goals_depth goals in
    let s = instantiating σ in
    let r = instantiating τ in (
      (λ t agree. replaced-agree d t s r (agree_on_heads (λ h. OccursIn h t) σ τ agree)),
      (λ ts agree. replaced_in_spine-agree d ts s r (agree_on_heads (λ h. OccursInSpine h ts) σ τ agree)),
      type_agrees goals σ τ,
      (λ a agree. replaced_in_atom-agree d a s r (agree_on_heads (λ h. OccursInSpine h a.atom_args) σ τ agree)),
      (λ ctx agree. replaced_in_context-agree d ctx s r (agree_on_heads (λ h. OccursInContext h ctx) σ τ agree)),
      goal_agrees goals σ τ,
    )

pub unassigned_instances_are_the_same : UnassignedInstancesAreTheSame
unfolding instance_of instance_of_spine instance_of_atom instance_of_context
unassigned_instances_are_the_same goals σ =
    let d = goals_depth goals in
    let s = instantiating σ in (
      (λ t none. replaced-agree d t s stays (stay_on_heads (λ h. OccursIn h t) σ none) ∙ replaced-stays d t),
      (λ ts none. replaced_in_spine-agree d ts s stays (stay_on_heads (λ h. OccursInSpine h ts) σ none) ∙ replaced_in_spine-stays d ts),
      type_stays goals σ,
      (λ a none. replaced_in_atom-agree d a s stays (stay_on_heads (λ h. OccursInSpine h a.atom_args) σ none) ∙ replaced_in_atom-stays d a),
      (λ ctx none. replaced_in_context-agree d ctx s stays (stay_on_heads (λ h. OccursInContext h ctx) σ none) ∙ replaced_in_context-stays d ctx),
      goal_stays goals σ,
    )
