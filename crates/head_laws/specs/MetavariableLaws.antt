-- The laws of renaming metavariables: all of shapes, substitution, instantiation, typing and failure goes along with it.
use Rattle.std.specs.Prelude.{◌≡◌, ◌↔◌, ℕ, List, Option, Some, option_map}
use Rattle.lf_definitions.specs.Syntax.{LfHead, LfTerm, Spine, LfType, Context, LfKind, SimpleType}
use Rattle.lf_definitions.specs.Renaming.{Renaming, rename, rename_spine, rename_type, rename_context}
use Rattle.lf_definitions.specs.Shaping.{Scope, Shaped, ShapedSpine, ShapedType}
use Rattle.lf_definitions.specs.ShapedGoals.{ShapedContext}
use Rattle.lf_definitions.specs.Substitution.{rename_image, Replacement, Substituted, SubstitutedSpine, SubstitutedType, SubstitutedContext}
use Rattle.lf_definitions.specs.Occurrence.{OccursIn, OccursInSpine, OccursInType, OccursInContext, OccursInGoal}
use Rattle.lf_definitions.specs.Typing.{Typing, Typed, Kinds, Formed, FormedContext, LfGoal, goal_type}
use Rattle.lf_definitions.specs.Failures.{FailsTerm, FailsTypeFrom, FailsContextFrom}
use Rattle.lf_definitions.specs.Instantiation.{Assignment, Instantiated, InstantiatedSpine, InstantiatedType, InstantiatedContext, InstantiatedGoal, metavariables, rename_goal, IsInjective}

-- Where `τ` does to the head that `ξ` makes of a head what `σ` does to that head and `ζ` then to its image, each result of a renamed term is a renamed result.
abbrev pub ResultsOfRenamedTermsAreRenamed : Type 0
ResultsOfRenamedTermsAreRenamed =
    (ξ ζ : Renaming) (σ τ : Replacement) → ((h : LfHead) → τ (ξ h) ≡ rename_image ζ (σ h)) →
    ((t x : LfTerm) → Substituted τ (rename ξ t) x → (r : LfTerm) × (x ≡ rename ζ r) × Substituted σ t r)
    × ((ts xs : Spine) → SubstitutedSpine τ (rename_spine ξ ts) xs → (rs : Spine) × (xs ≡ rename_spine ζ rs) × SubstitutedSpine σ ts rs)
    × ((a x : LfType) → SubstitutedType τ (rename_type ξ a) x → (r : LfType) × (x ≡ rename_type ζ r) × SubstitutedType σ a r)
    × ((ctx xs : Context) → SubstitutedContext τ (rename_context ξ ctx) xs → (rs : Context) × (xs ≡ rename_context ζ rs) × SubstitutedContext σ ctx rs)

-- `τ` assigns to the new number of each metavariable what `σ` assigns to the metavariable, renamed.
abbrev pub AssignsRenamed : (ℕ → ℕ) → Assignment → Assignment → Type 0
AssignsRenamed ρ σ τ = (g : ℕ) → τ (ρ g) ≡ option_map (rename (metavariables ρ)) (σ g)

-- Then what `τ` makes of something renamed is what `σ` makes of it, renamed.
abbrev pub InstantiationsAreRenamed : Type 0
InstantiationsAreRenamed =
    (ρ : ℕ → ℕ) → IsInjective ρ → (σ τ : Assignment) → AssignsRenamed ρ σ τ →
    ((t r : LfTerm) → Instantiated σ t r ↔ Instantiated τ (rename (metavariables ρ) t) (rename (metavariables ρ) r))
    × ((ts rs : Spine) → InstantiatedSpine σ ts rs ↔ InstantiatedSpine τ (rename_spine (metavariables ρ) ts) (rename_spine (metavariables ρ) rs))
    × ((a b : LfType) → InstantiatedType σ a b ↔ InstantiatedType τ (rename_type (metavariables ρ) a) (rename_type (metavariables ρ) b))
    × ((ctx results : Context) → InstantiatedContext σ ctx results ↔ InstantiatedContext τ (rename_context (metavariables ρ) ctx) (rename_context (metavariables ρ) results))
    × ((g h : LfGoal) → InstantiatedGoal σ g h ↔ InstantiatedGoal τ (rename_goal ρ g) (rename_goal ρ h))

-- And each result of something renamed is a renamed result.
abbrev pub ResultsOfInstantiationAreRenamed : Type 0
ResultsOfInstantiationAreRenamed =
    (ρ : ℕ → ℕ) (σ τ : Assignment) → AssignsRenamed ρ σ τ →
    ((t x : LfTerm) → Instantiated τ (rename (metavariables ρ) t) x → (r : LfTerm) × (x ≡ rename (metavariables ρ) r) × Instantiated σ t r)
    × ((ts xs : Spine) → InstantiatedSpine τ (rename_spine (metavariables ρ) ts) xs → (rs : Spine) × (xs ≡ rename_spine (metavariables ρ) rs) × InstantiatedSpine σ ts rs)
    × ((a x : LfType) → InstantiatedType τ (rename_type (metavariables ρ) a) x → (r : LfType) × (x ≡ rename_type (metavariables ρ) r) × InstantiatedType σ a r)
    × ((ctx xs : Context) → InstantiatedContext τ (rename_context (metavariables ρ) ctx) xs → (rs : Context) × (xs ≡ rename_context (metavariables ρ) rs) × InstantiatedContext σ ctx rs)

-- Shapes stay, where the new number of each metavariable has its shape, and the other heads have the same.
abbrev pub RenamedMetavariablesKeepShapes : Type 0
RenamedMetavariablesKeepShapes =
    (ρ : ℕ → ℕ) (Γ Δ : Scope) → ((h : LfHead) → Δ (metavariables ρ h) ≡ Γ h) →
    ((t : LfTerm) (s : SimpleType) → Shaped Γ t s ↔ Shaped Δ (rename (metavariables ρ) t) s)
    × ((ts : Spine) (s : SimpleType) → ShapedSpine Γ ts s ↔ ShapedSpine Δ (rename_spine (metavariables ρ) ts) s)
    × ((kinds : ℕ → Option SimpleType) (a : LfType) → ShapedType kinds Γ a ↔ ShapedType kinds Δ (rename_type (metavariables ρ) a))
    × ((kinds : ℕ → Option SimpleType) (ctx : Context) → ShapedContext kinds Γ ctx ↔ ShapedContext kinds Δ (rename_context (metavariables ρ) ctx))

-- Each head has, under its new number, its type, renamed.
abbrev pub HasTypesRenamed : (ℕ → ℕ) → Typing → Typing → Type 0
HasTypesRenamed ρ Γ Δ = (h : LfHead) → Δ (metavariables ρ h) ≡ option_map (rename_type (metavariables ρ)) (Γ h)

-- Kinds mention no metavariable.
abbrev pub KindsStay : (ℕ → ℕ) → Kinds → Type 0
KindsStay ρ kinds = (f : ℕ) (kind : LfKind) → kinds f ≡ Some kind → rename_context (metavariables ρ) kind ≡ kind

-- Then what is typed or well formed is so once it is renamed, and nothing else becomes so.
abbrev pub TypingIsRenamed : Type 0
TypingIsRenamed =
    (ρ : ℕ → ℕ) → IsInjective ρ → (Γ Δ : Typing) → HasTypesRenamed ρ Γ Δ →
    ((t : LfTerm) (a : LfType) → Typed Γ t a ↔ Typed Δ (rename (metavariables ρ) t) (rename_type (metavariables ρ) a))
    × ((kinds : Kinds) → KindsStay ρ kinds → (a : LfType) → Formed kinds Γ a ↔ Formed kinds Δ (rename_type (metavariables ρ) a))
    × ((kinds : Kinds) → KindsStay ρ kinds → (ctx : Context) → FormedContext kinds Γ ctx ↔ FormedContext kinds Δ (rename_context (metavariables ρ) ctx))

-- The first failure is at the same path.
abbrev pub FailuresAreRenamed : Type 0
FailuresAreRenamed =
    (ρ : ℕ → ℕ) → IsInjective ρ → (Γ Δ : Typing) → HasTypesRenamed ρ Γ Δ →
    ((t : LfTerm) (a : LfType) (path : List ℕ) → FailsTerm Γ t a path ↔ FailsTerm Δ (rename (metavariables ρ) t) (rename_type (metavariables ρ) a) path)
    × ((kinds : Kinds) → KindsStay ρ kinds → (a : LfType) (child : ℕ) (path : List ℕ) → FailsTypeFrom kinds Γ a child path ↔ FailsTypeFrom kinds Δ (rename_type (metavariables ρ) a) child path)
    × ((kinds : Kinds) → KindsStay ρ kinds → (ctx : Context) (child : ℕ) (path : List ℕ) →
    FailsContextFrom kinds Γ ctx child path ↔ FailsContextFrom kinds Δ (rename_context (metavariables ρ) ctx) child path)

-- A head occurs where its new one does afterwards.
abbrev pub MetavariablesOccurRenamed : Type 0
MetavariablesOccurRenamed =
    (ρ : ℕ → ℕ) → IsInjective ρ → (h : LfHead) →
    ((t : LfTerm) → OccursIn (metavariables ρ h) (rename (metavariables ρ) t) ↔ OccursIn h t)
    × ((ts : Spine) → OccursInSpine (metavariables ρ h) (rename_spine (metavariables ρ) ts) ↔ OccursInSpine h ts)
    × ((a : LfType) → OccursInType (metavariables ρ h) (rename_type (metavariables ρ) a) ↔ OccursInType h a)
    × ((ctx : Context) → OccursInContext (metavariables ρ h) (rename_context (metavariables ρ) ctx) ↔ OccursInContext h ctx)
    × ((g : LfGoal) → OccursInGoal (metavariables ρ h) (rename_goal ρ g) ↔ OccursInGoal h g)

-- The type of a renamed goal is the goal's, renamed.
abbrev pub GoalTypesAreRenamed : Type 0
GoalTypesAreRenamed = (ρ : ℕ → ℕ) (g : LfGoal) → goal_type (rename_goal ρ g) ≡ rename_type (metavariables ρ) (goal_type g)
