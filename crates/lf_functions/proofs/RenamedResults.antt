-- Instances and results go along with renamings of metavariables, as the laws are stated.
use Rattle.std.proofs.Common.{◌≡◌, ℕ, List, map, length, refl, ap, ap₂, ◌∙◌}
use Rattle.lf_definitions.specs.Syntax.{LfAtom, Context, shapes_size}
use Rattle.lf_definitions.specs.Renaming.{rename, rename_spine, rename_type, rename_context}
use Rattle.lf_definitions.specs.Substitution.{stays, up_by, push_all}
use Rattle.lf_definitions.specs.Typing.{LfGoal}
use Rattle.lf_definitions.specs.Instantiation.{Assignment, instantiating, metavariables, rename_goal}
use Rattle.lf_definitions.proofs.TypedSpines.{length-rename_context}
use Rattle.head_laws.specs.MetavariableLaws.{AssignsRenamed}
use Rattle.head_laws.proofs.Metavariables.{Follows-instantiating}
use Rattle.head_laws.proofs.MetavariableTyping.{Follows-push_all_metavariables}
use Rattle.renamed_unification.specs.Laws.{rename_atom}
use Rattle.lf_functions.specs.Replacing.{replaced, replaced_in_spine, replaced_in_type, replaced_in_atom, replaced_in_context}
use Rattle.lf_functions.specs.Instances.{goals_depth, instance_of, instance_of_spine, instance_of_type, instance_of_atom, instance_of_context, instance_of_goal, result_of, result_of_spine, result_of_type, result_of_atom, result_of_context}
use Rattle.lf_functions.specs.Laws.{InstancesAreRenamed, ResultsAreRenamed}
use Rattle.lf_functions.proofs.Depths.{goals_depth-renamed}
use Rattle.lf_functions.proofs.Renamed.{GoesAlong, GoesAlong-up_by, replaced-renamed, replaced_in_spine-renamed, replaced_in_type-renamed, replaced_in_atom-renamed, replaced_in_context-renamed}

goal_of_parts : ℕ → Context → LfAtom → LfGoal
goal_of_parts id context target = record { id = id; context = context; target = target }

-- a goal under an assignment
goal_renamed : (ρ : ℕ → ℕ) (goals : List LfGoal) (σ τ : Assignment) → AssignsRenamed ρ σ τ → (g : LfGoal) → instance_of_goal (map (rename_goal ρ) goals) τ (rename_goal ρ g) ≡ rename_goal ρ (instance_of_goal goals σ g)
unfolding instance_of_goal goal_of_parts
goal_renamed ρ goals σ τ renamed g =
    let ζ = metavariables ρ in
    let n = length g.context in
    let d = goals_depth goals in
    let along = Follows-instantiating ρ σ τ renamed in
    let contexts : replaced_in_context (goals_depth (map (rename_goal ρ) goals)) (instantiating τ) (rename_context ζ g.context) ≡ rename_context ζ (replaced_in_context d (instantiating σ) g.context) =
    ap (λ m. replaced_in_context m (instantiating τ) (rename_context ζ g.context)) (goals_depth-renamed ρ goals)
    ∙ replaced_in_context-renamed d ρ g.context (instantiating σ) (instantiating τ) along in
    let targets : replaced_in_atom (goals_depth (map (rename_goal ρ) goals)) (up_by (length (rename_context ζ g.context)) (instantiating τ)) (rename_atom ρ g.target) ≡ rename_atom ρ (replaced_in_atom d (up_by n (instantiating σ)) g.target) =
    ap₂ (λ m k. replaced_in_atom m (up_by k (instantiating τ)) (rename_atom ρ g.target)) (goals_depth-renamed ρ goals) (length-rename_context ζ g.context)
    ∙ replaced_in_atom-renamed d ρ g.target (up_by n (instantiating σ)) (up_by n (instantiating τ)) (GoesAlong-up_by n ρ (instantiating σ) (instantiating τ) along) in
    ap₂ (goal_of_parts (ρ g.id)) contexts targets

pub instances_are_renamed : InstancesAreRenamed
unfolding instance_of instance_of_spine instance_of_type instance_of_atom instance_of_context
instances_are_renamed ρ goals σ τ renamed =
    let ζ = metavariables ρ in
    let d = goals_depth goals in
    let s = instantiating σ in
    let r = instantiating τ in
    let same = goals_depth-renamed ρ goals in
    let along = Follows-instantiating ρ σ τ renamed in (
      (λ t. ap (λ m. replaced m r (rename ζ t)) same ∙ replaced-renamed d ρ t s r along),
      (λ ts. ap (λ m. replaced_in_spine m r (rename_spine ζ ts)) same ∙ replaced_in_spine-renamed d ρ ts s r along),
      (λ a. ap (λ m. replaced_in_type m r (rename_type ζ a)) same ∙ replaced_in_type-renamed d ρ a s r along),
      (λ a. ap (λ m. replaced_in_atom m r (rename_atom ρ a)) same ∙ replaced_in_atom-renamed d ρ a s r along),
      (λ ctx. ap (λ m. replaced_in_context m r (rename_context ζ ctx)) same ∙ replaced_in_context-renamed d ρ ctx s r along),
      goal_renamed ρ goals σ τ renamed,
    )

pub results_are_renamed : ResultsAreRenamed
unfolding result_of result_of_spine result_of_type result_of_atom result_of_context
results_are_renamed ρ shapes sub =
    let d = shapes_size shapes in
    let s = push_all sub stays in
    let r = push_all (rename_spine (metavariables ρ) sub) stays in
    let along : GoesAlong ρ s r = Follows-push_all_metavariables sub ρ stays stays (λ h. refl) in (
      (λ t. replaced-renamed d ρ t s r along),
      (λ ts. replaced_in_spine-renamed d ρ ts s r along),
      (λ a. replaced_in_type-renamed d ρ a s r along),
      (λ a. replaced_in_atom-renamed d ρ a s r along),
      (λ ctx. replaced_in_context-renamed d ρ ctx s r along),
    )
