-- Instances and results are the one result of the relation, as the laws are stated.
use Rattle.std.proofs.Common.{◌≡◌, ℕ, ◌≤◌, Option, List, length, refl, sym, ap, subst, arith}
use Rattle.lf_definitions.specs.Syntax.{LfTerm, Spine, LfType, LfAtom, atomic, conclusion_atom, Context, SimpleType, shapes_size, shapes_of_types}
use Rattle.lf_definitions.specs.Shaping.{Scope, under_all, Shaped, ShapedSpine, ShapedType}
use Rattle.lf_definitions.specs.ShapedGoals.{ShapedContext, kind_shapes_in, scope_in}
use Rattle.lf_definitions.specs.Substitution.{Replacement, stays, up_by, push_all, Substituted, SubstitutedSpine, SubstitutedType, SubstitutedContext}
use Rattle.lf_definitions.specs.Replacements.{Goes}
use Rattle.lf_definitions.specs.Typing.{LfGoal}
use Rattle.lf_definitions.specs.Instantiation.{Assignment, instantiating, Instantiated, InstantiatedSpine, InstantiatedType, InstantiatedContext, InstantiatedGoal}
use Rattle.lf_definitions.proofs.Uniqueness.{unique, unique_spine, unique_type}
use Rattle.lf_definitions.proofs.Totality.{Goes-stays, Shaped-Substituted, ShapedSpine-SubstitutedSpine}
use Rattle.lf_definitions.proofs.Types.{ShapedType-SubstitutedType}
use Rattle.lf_definitions.proofs.Telescopes.{Goes-push_all, Goes-up_by}
use Rattle.head_laws.specs.ReplacementLaws.{ShapedGoalOver}
use Rattle.head_laws.proofs.Results.{unique_context, total_context, unique_goal, total_goal, length-shapes_of_types}
use Rattle.lf_functions.specs.Replacing.{replaced, replaced_in_spine, replaced_in_type, replaced_in_atom, replaced_in_context}
use Rattle.lf_functions.specs.Instances.{goals_depth, instance_of, instance_of_spine, instance_of_type, instance_of_atom, instance_of_context, instance_of_goal, result_of, result_of_spine, result_of_type, result_of_atom, result_of_context}
use Rattle.lf_functions.specs.Laws.{IsTheOne, ReplacedIsTheOneResult, InstancesAreTheOneResult, ResultsAreTheOneResult}
use Rattle.lf_functions.proofs.Replaced.{Substituted-replaced, SubstitutedSpine-replaced_in_spine, SubstitutedType-replaced_in_type, SubstitutedType-replaced_in_atom, SubstitutedContext-replaced_in_context}
use Rattle.lf_functions.proofs.Depths.{KnowsGoals-scope_in, Goes-goals_depth}

the_one : {A : Type 0} (Gives : A → Type 0) (it : A) → Gives it → ((x : A) → Gives x → x ≡ it) → IsTheOne Gives it
the_one Gives it given only x = (only x, λ e. subst Gives (sym e) given)

-- the results of one replacement
module _ (depth : ℕ) (kinds : ℕ → Option SimpleType) (Γ Δ : Scope) (σ : Replacement) (goes : Goes depth Γ Δ σ) where
  one_term : (t : LfTerm) (s : SimpleType) → Shaped Γ t s → IsTheOne (Substituted σ t) (replaced depth σ t) × Shaped Δ (replaced depth σ t) s
  one_term t s shaped =
      let r = Substituted-replaced depth shaped Δ σ goes in
      (the_one (Substituted σ t) (replaced depth σ t) r (λ x p. unique p r), Shaped-Substituted depth Γ Δ σ goes shaped r)

  one_spine : (ts : Spine) (s : SimpleType) → ShapedSpine Γ ts s → IsTheOne (SubstitutedSpine σ ts) (replaced_in_spine depth σ ts) × ShapedSpine Δ (replaced_in_spine depth σ ts) s
  one_spine ts s shaped =
      let r = SubstitutedSpine-replaced_in_spine depth shaped Δ σ goes in
      (the_one (SubstitutedSpine σ ts) (replaced_in_spine depth σ ts) r (λ x p. unique_spine p r), ShapedSpine-SubstitutedSpine depth Γ Δ σ goes shaped r)

  one_type : (a : LfType) → ShapedType kinds Γ a → IsTheOne (SubstitutedType σ a) (replaced_in_type depth σ a) × ShapedType kinds Δ (replaced_in_type depth σ a)
  one_type a shaped =
      let r = SubstitutedType-replaced_in_type depth shaped Δ σ goes in
      (the_one (SubstitutedType σ a) (replaced_in_type depth σ a) r (λ x p. unique_type p r), ShapedType-SubstitutedType depth kinds Γ Δ σ goes shaped r)

  one_atom : (a : LfAtom) → ShapedType kinds Γ (atomic a) → IsTheOne (λ b. SubstitutedType σ (atomic a) (atomic b)) (replaced_in_atom depth σ a) × ShapedType kinds Δ (atomic (replaced_in_atom depth σ a))
  one_atom a shaped =
      let r = SubstitutedType-replaced_in_atom depth kinds Γ a shaped Δ σ goes in
      (the_one (λ b. SubstitutedType σ (atomic a) (atomic b)) (replaced_in_atom depth σ a) r (λ b p. ap conclusion_atom (unique_type p r)), ShapedType-SubstitutedType depth kinds Γ Δ σ goes shaped r)

  one_context : (ctx : Context) → ShapedContext kinds Γ ctx → IsTheOne (SubstitutedContext σ ctx) (replaced_in_context depth σ ctx) × ShapedContext kinds Δ (replaced_in_context depth σ ctx)
  one_context ctx shaped =
      let r = SubstitutedContext-replaced_in_context depth shaped Δ σ goes in
      let c = total_context depth shaped Δ σ goes in
      (the_one (SubstitutedContext σ ctx) (replaced_in_context depth σ ctx) r (λ x p. unique_context p r), subst (ShapedContext kinds Δ) (unique_context c.1 r) c.2)

pub replaced_is_the_one_result : ReplacedIsTheOneResult
replaced_is_the_one_result depth kinds Γ Δ σ goes =
    (one_term depth kinds Γ Δ σ goes, one_spine depth kinds Γ Δ σ goes, one_type depth kinds Γ Δ σ goes, one_atom depth kinds Γ Δ σ goes, one_context depth kinds Γ Δ σ goes)

-- a goal under an assignment
one_goal : (goals : List LfGoal) (kinds : ℕ → Option SimpleType) (Γ Δ : Scope) (σ : Assignment) → Goes (goals_depth goals) Γ Δ (instantiating σ) → (g : LfGoal) → ShapedGoalOver kinds Γ g →
    IsTheOne (InstantiatedGoal σ g) (instance_of_goal goals σ g) × ShapedGoalOver kinds Δ (instance_of_goal goals σ g)
unfolding instance_of_goal
one_goal goals kinds Γ Δ σ goes g shaped =
    let depth = goals_depth goals in
    let shapes = shapes_of_types g.context in
    let τ = up_by (length g.context) (instantiating σ) in
    let under_shapes : Goes depth (under_all shapes Γ) (under_all shapes Δ) τ =
    subst (λ n. Goes depth (under_all shapes Γ) (under_all shapes Δ) (up_by n (instantiating σ))) (length-shapes_of_types g.context) (Goes-up_by depth shapes Γ Δ (instantiating σ) goes) in
    let r : InstantiatedGoal σ g (instance_of_goal goals σ g) =
    record {
      same_id = refl;
      of_context = SubstitutedContext-replaced_in_context depth shaped.0 Δ (instantiating σ) goes;
      of_target = SubstitutedType-replaced_in_atom depth kinds (under_all shapes Γ) g.target shaped.1 (under_all shapes Δ) τ under_shapes;
    } in
    let c = total_goal depth kinds Γ Δ σ g goes shaped in
    (the_one (InstantiatedGoal σ g) (instance_of_goal goals σ g) r (λ h p. unique_goal σ g h (instance_of_goal goals σ g) p r), subst (ShapedGoalOver kinds Δ) (unique_goal σ g c.0 (instance_of_goal goals σ g) c.1 r) c.2)

-- what assignments make of things in a scope
abbrev pub InstancesInScope : List LfGoal → (ℕ → Option SimpleType) → Scope → Scope → Assignment → Type 0
InstancesInScope goals kinds Γ others σ =
    ((t : LfTerm) (s : SimpleType) → Shaped Γ t s → IsTheOne (Instantiated σ t) (instance_of goals σ t) × Shaped others (instance_of goals σ t) s)
    × ((ts : Spine) (s : SimpleType) → ShapedSpine Γ ts s → IsTheOne (InstantiatedSpine σ ts) (instance_of_spine goals σ ts) × ShapedSpine others (instance_of_spine goals σ ts) s)
    × ((a : LfType) → ShapedType kinds Γ a → IsTheOne (InstantiatedType σ a) (instance_of_type goals σ a) × ShapedType kinds others (instance_of_type goals σ a))
    × ((a : LfAtom) → ShapedType kinds Γ (atomic a) → IsTheOne (λ b. InstantiatedType σ (atomic a) (atomic b)) (instance_of_atom goals σ a) × ShapedType kinds others (atomic (instance_of_atom goals σ a)))
    × ((more : Context) → ShapedContext kinds Γ more → IsTheOne (InstantiatedContext σ more) (instance_of_context goals σ more) × ShapedContext kinds others (instance_of_context goals σ more))
    × ((g : LfGoal) → ShapedGoalOver kinds Γ g → IsTheOne (InstantiatedGoal σ g) (instance_of_goal goals σ g) × ShapedGoalOver kinds others (instance_of_goal goals σ g))

pub instances_in_scope : (goals : List LfGoal) (kinds : ℕ → Option SimpleType) (Γ others : Scope) (σ : Assignment) → Goes (goals_depth goals) Γ others (instantiating σ) → InstancesInScope goals kinds Γ others σ
unfolding instance_of instance_of_spine instance_of_type instance_of_atom instance_of_context
instances_in_scope goals kinds Γ others σ enough =
    let one = replaced_is_the_one_result (goals_depth goals) kinds Γ others (instantiating σ) enough in
    (one.0, one.1, one.2, one.3, one.4, one_goal goals kinds Γ others σ enough)

pub instances_are_the_one_result : InstancesAreTheOneResult
instances_are_the_one_result sig goals ctx depth others σ goes =
    instances_in_scope goals (kind_shapes_in sig) (scope_in sig goals ctx) others σ (Goes-goals_depth goals depth (scope_in sig goals ctx) others σ (KnowsGoals-scope_in sig goals ctx) goes)

pub results_are_the_one_result : ResultsAreTheOneResult
unfolding result_of result_of_spine result_of_type result_of_atom result_of_context
results_are_the_one_result kinds outer shapes sub shaped =
    let small : shapes_size shapes ≤ shapes_size shapes = omega arith in
    replaced_is_the_one_result (shapes_size shapes) kinds (under_all shapes outer) outer (push_all sub stays)
    (Goes-push_all (shapes_size shapes) shapes sub outer outer stays (Goes-stays (shapes_size shapes) outer) shaped small)
