-- The laws of instances and of results: on shaped data each is the one result of the relation, and they go along with renamings of metavariables.
use Rattle.std.specs.Prelude.{◌≡◌, ◌↔◌, ℕ, List, map, Option}
use Rattle.lf_definitions.specs.Syntax.{LfTerm, Spine, LfType, LfAtom, atomic, Context, SimpleType}
use Rattle.lf_definitions.specs.Renaming.{rename, rename_spine, rename_type, rename_context}
use Rattle.lf_definitions.specs.Shaping.{Scope, under_all, Shaped, ShapedSpine, ShapedType, ShapedList}
use Rattle.lf_definitions.specs.ShapedGoals.{ShapedContext, kind_shapes_in, scope_in, ShapedTypeIn, ShapedContextIn}
use Rattle.lf_definitions.specs.Substitution.{Replacement, stays, push_all, Substituted, SubstitutedSpine, SubstitutedType, SubstitutedContext}
use Rattle.lf_definitions.specs.Replacements.{Goes}
use Rattle.lf_definitions.specs.Typing.{LfGoal}
use Rattle.lf_definitions.specs.Signatures.{LfSignature}
use Rattle.lf_definitions.specs.Instantiation.{Assignment, instantiating, Instantiated, InstantiatedSpine, InstantiatedType, InstantiatedContext, InstantiatedGoal, metavariables, rename_goal}
use Rattle.head_laws.specs.MetavariableLaws.{AssignsRenamed}
use Rattle.head_laws.specs.ReplacementLaws.{ShapedGoalOver}
use Rattle.renamed_unification.specs.Laws.{rename_atom}
use Rattle.lf_functions.specs.Replacing.{replaced, replaced_in_spine, replaced_in_type, replaced_in_atom, replaced_in_context}
use Rattle.lf_functions.specs.Instances.{instance_of, instance_of_spine, instance_of_type, instance_of_atom, instance_of_context, instance_of_goal, result_of, result_of_spine, result_of_type, result_of_atom, result_of_context}

-- It is what the relation gives, and the relation gives nothing else.
abbrev pub IsTheOne : {A : Type 0} → (A → Type 0) → A → Type 0
IsTheOne {A} Gives it = (x : A) → Gives x ↔ (x ≡ it)

-- Where the terms that a replacement puts have shapes smaller than the depth, what it makes of something shaped is the one result, and is shaped.
abbrev pub ReplacedIsTheOneResult : Type 0
ReplacedIsTheOneResult =
    (depth : ℕ) (kinds : ℕ → Option SimpleType) (Γ Δ : Scope) (σ : Replacement) → Goes depth Γ Δ σ →
    ((t : LfTerm) (s : SimpleType) → Shaped Γ t s → IsTheOne (Substituted σ t) (replaced depth σ t) × Shaped Δ (replaced depth σ t) s)
    × ((ts : Spine) (s : SimpleType) → ShapedSpine Γ ts s → IsTheOne (SubstitutedSpine σ ts) (replaced_in_spine depth σ ts) × ShapedSpine Δ (replaced_in_spine depth σ ts) s)
    × ((a : LfType) → ShapedType kinds Γ a → IsTheOne (SubstitutedType σ a) (replaced_in_type depth σ a) × ShapedType kinds Δ (replaced_in_type depth σ a))
    × ((a : LfAtom) → ShapedType kinds Γ (atomic a) → IsTheOne (λ b. SubstitutedType σ (atomic a) (atomic b)) (replaced_in_atom depth σ a) × ShapedType kinds Δ (atomic (replaced_in_atom depth σ a)))
    × ((ctx : Context) → ShapedContext kinds Γ ctx → IsTheOne (SubstitutedContext σ ctx) (replaced_in_context depth σ ctx) × ShapedContext kinds Δ (replaced_in_context depth σ ctx))

-- Where an assignment goes from goals to others, the instance of something that is shaped among the goals is the one that the relation gives, and is shaped among the others.
abbrev pub InstancesAreTheOneResult : Type 0
InstancesAreTheOneResult =
    (sig : LfSignature) (goals : List LfGoal) (ctx : Context) (depth : ℕ) (others : Scope) (σ : Assignment) → Goes depth (scope_in sig goals ctx) others (instantiating σ) →
    ((t : LfTerm) (s : SimpleType) → Shaped (scope_in sig goals ctx) t s → IsTheOne (Instantiated σ t) (instance_of goals σ t) × Shaped others (instance_of goals σ t) s)
    × ((ts : Spine) (s : SimpleType) → ShapedSpine (scope_in sig goals ctx) ts s → IsTheOne (InstantiatedSpine σ ts) (instance_of_spine goals σ ts) × ShapedSpine others (instance_of_spine goals σ ts) s)
    × ((a : LfType) → ShapedTypeIn sig goals ctx a → IsTheOne (InstantiatedType σ a) (instance_of_type goals σ a) × ShapedType (kind_shapes_in sig) others (instance_of_type goals σ a))
    × ((a : LfAtom) → ShapedTypeIn sig goals ctx (atomic a) →
    IsTheOne (λ b. InstantiatedType σ (atomic a) (atomic b)) (instance_of_atom goals σ a) × ShapedType (kind_shapes_in sig) others (atomic (instance_of_atom goals σ a)))
    × ((more : Context) → ShapedContextIn sig goals ctx more → IsTheOne (InstantiatedContext σ more) (instance_of_context goals σ more) × ShapedContext (kind_shapes_in sig) others (instance_of_context goals σ more))
    × ((g : LfGoal) → ShapedGoalOver (kind_shapes_in sig) (scope_in sig goals ctx) g →
    IsTheOne (InstantiatedGoal σ g) (instance_of_goal goals σ g) × ShapedGoalOver (kind_shapes_in sig) others (instance_of_goal goals σ g))

-- The result of a shaped list in something shaped is the one that the relation gives, and is shaped.
abbrev pub ResultsAreTheOneResult : Type 0
ResultsAreTheOneResult =
    (kinds : ℕ → Option SimpleType) (outer : Scope) (shapes : List SimpleType) (sub : Spine) → ShapedList outer sub shapes →
    ((t : LfTerm) (s : SimpleType) → Shaped (under_all shapes outer) t s → IsTheOne (Substituted (push_all sub stays) t) (result_of shapes sub t) × Shaped outer (result_of shapes sub t) s)
    × ((ts : Spine) (s : SimpleType) → ShapedSpine (under_all shapes outer) ts s →
    IsTheOne (SubstitutedSpine (push_all sub stays) ts) (result_of_spine shapes sub ts) × ShapedSpine outer (result_of_spine shapes sub ts) s)
    × ((a : LfType) → ShapedType kinds (under_all shapes outer) a → IsTheOne (SubstitutedType (push_all sub stays) a) (result_of_type shapes sub a) × ShapedType kinds outer (result_of_type shapes sub a))
    × ((a : LfAtom) → ShapedType kinds (under_all shapes outer) (atomic a) →
    IsTheOne (λ b. SubstitutedType (push_all sub stays) (atomic a) (atomic b)) (result_of_atom shapes sub a) × ShapedType kinds outer (atomic (result_of_atom shapes sub a)))
    × ((ctx : Context) → ShapedContext kinds (under_all shapes outer) ctx →
    IsTheOne (SubstitutedContext (push_all sub stays) ctx) (result_of_context shapes sub ctx) × ShapedContext kinds outer (result_of_context shapes sub ctx))

-- On all data, instances go along with a renaming of metavariables, of the goals, of the assignment and of what it is done to.
abbrev pub InstancesAreRenamed : Type 0
InstancesAreRenamed =
    (ρ : ℕ → ℕ) (goals : List LfGoal) (σ τ : Assignment) → AssignsRenamed ρ σ τ →
    ((t : LfTerm) → instance_of (map (rename_goal ρ) goals) τ (rename (metavariables ρ) t) ≡ rename (metavariables ρ) (instance_of goals σ t))
    × ((ts : Spine) → instance_of_spine (map (rename_goal ρ) goals) τ (rename_spine (metavariables ρ) ts) ≡ rename_spine (metavariables ρ) (instance_of_spine goals σ ts))
    × ((a : LfType) → instance_of_type (map (rename_goal ρ) goals) τ (rename_type (metavariables ρ) a) ≡ rename_type (metavariables ρ) (instance_of_type goals σ a))
    × ((a : LfAtom) → instance_of_atom (map (rename_goal ρ) goals) τ (rename_atom ρ a) ≡ rename_atom ρ (instance_of_atom goals σ a))
    × ((ctx : Context) → instance_of_context (map (rename_goal ρ) goals) τ (rename_context (metavariables ρ) ctx) ≡ rename_context (metavariables ρ) (instance_of_context goals σ ctx))
    × ((g : LfGoal) → instance_of_goal (map (rename_goal ρ) goals) τ (rename_goal ρ g) ≡ rename_goal ρ (instance_of_goal goals σ g))

-- On all data, results go along with a renaming of metavariables, of the list and of what it is put in.
abbrev pub ResultsAreRenamed : Type 0
ResultsAreRenamed =
    (ρ : ℕ → ℕ) (shapes : List SimpleType) (sub : Spine) →
    ((t : LfTerm) → result_of shapes (rename_spine (metavariables ρ) sub) (rename (metavariables ρ) t) ≡ rename (metavariables ρ) (result_of shapes sub t))
    × ((ts : Spine) → result_of_spine shapes (rename_spine (metavariables ρ) sub) (rename_spine (metavariables ρ) ts) ≡ rename_spine (metavariables ρ) (result_of_spine shapes sub ts))
    × ((a : LfType) → result_of_type shapes (rename_spine (metavariables ρ) sub) (rename_type (metavariables ρ) a) ≡ rename_type (metavariables ρ) (result_of_type shapes sub a))
    × ((a : LfAtom) → result_of_atom shapes (rename_spine (metavariables ρ) sub) (rename_atom ρ a) ≡ rename_atom ρ (result_of_atom shapes sub a))
    × ((ctx : Context) → result_of_context shapes (rename_spine (metavariables ρ) sub) (rename_context (metavariables ρ) ctx) ≡ rename_context (metavariables ρ) (result_of_context shapes sub ctx))
