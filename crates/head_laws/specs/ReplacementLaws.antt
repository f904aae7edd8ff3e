-- The laws of replacements in types, contexts and goals: one result, and one replacement after another.
use Rattle.std.specs.Prelude.{◌≡◌, ◌↔◌, ℕ, Option}
use Rattle.lf_definitions.specs.Syntax.{LfTerm, Spine, LfType, Context, SimpleType, atomic, shapes_of_types}
use Rattle.lf_definitions.specs.Shaping.{Scope, under_all, Shaped, ShapedSpine, ShapedType}
use Rattle.lf_definitions.specs.ShapedGoals.{ShapedContext}
use Rattle.lf_definitions.specs.Substitution.{Replacement, Substituted, SubstitutedSpine, SubstitutedType, SubstitutedContext}
use Rattle.lf_definitions.specs.Replacements.{Goes, IsThen}
use Rattle.lf_definitions.specs.Typing.{LfGoal, goal_type}
use Rattle.lf_definitions.specs.Instantiation.{Assignment, instantiating, InstantiatedType, InstantiatedGoal}

-- A goal is shaped over a scope where its context is, and its target in that context.
abbrev pub ShapedGoalOver : (ℕ → Option SimpleType) → Scope → LfGoal → Type 0
ShapedGoalOver kinds Γ g = ShapedContext kinds Γ g.context × ShapedType kinds (under_all (shapes_of_types g.context) Γ) (atomic g.target)

-- A replacement that goes from one scope to another has exactly one result in each shaped type and context, and so has an assignment in each shaped goal; it is shaped.
abbrev pub TypesAndContextsHaveOneResult : Type 0
TypesAndContextsHaveOneResult =
    (p : ℕ) (kinds : ℕ → Option SimpleType) (Γ Δ : Scope) →
    ((σ : Replacement) → Goes p Γ Δ σ → (a : LfType) → ShapedType kinds Γ a →
    (c : LfType) × SubstitutedType σ a c × ((b : LfType) → SubstitutedType σ a b → b ≡ c) × ShapedType kinds Δ c)
    × ((σ : Replacement) → Goes p Γ Δ σ → (ctx : Context) → ShapedContext kinds Γ ctx →
    (results : Context) × SubstitutedContext σ ctx results × ((other : Context) → SubstitutedContext σ ctx other → other ≡ results) × ShapedContext kinds Δ results)
    × ((σ : Assignment) → Goes p Γ Δ (instantiating σ) → (g : LfGoal) → ShapedGoalOver kinds Γ g →
    (h : LfGoal) × InstantiatedGoal σ g h × ((k : LfGoal) → InstantiatedGoal σ g k → k ≡ h) × ShapedGoalOver kinds Δ h)

-- One replacement after another is one that does to each head what they do.
abbrev pub ReplacementsCompose : Type 0
ReplacementsCompose =
    (p q m : ℕ) (Γ Δ Θ : Scope) (σ τ ρ : Replacement) → Goes p Γ Δ σ → Goes q Δ Θ τ → IsThen σ τ ρ → Goes m Γ Θ ρ →
    ((t r x : LfTerm) (s : SimpleType) → Shaped Γ t s → Substituted σ t r → Substituted τ r x ↔ Substituted ρ t x)
    × ((ts rs xs : Spine) (s : SimpleType) → ShapedSpine Γ ts s → SubstitutedSpine σ ts rs → SubstitutedSpine τ rs xs ↔ SubstitutedSpine ρ ts xs)
    × ((kinds : ℕ → Option SimpleType) (a b c : LfType) → ShapedType kinds Γ a → SubstitutedType σ a b → SubstitutedType τ b c ↔ SubstitutedType ρ a c)
    × ((kinds : ℕ → Option SimpleType) (ctx first second : Context) → ShapedContext kinds Γ ctx → SubstitutedContext σ ctx first →
    SubstitutedContext τ first second ↔ SubstitutedContext ρ ctx second)

-- To instantiate a goal is to keep its number and to instantiate its type as a metavariable, and it is shaped where that type is.
abbrev pub GoalsAreInstantiatedAsTypes : Type 0
GoalsAreInstantiatedAsTypes =
    ((σ : Assignment) (g h : LfGoal) → InstantiatedGoal σ g h ↔ (h.id ≡ g.id) × InstantiatedType σ (goal_type g) (goal_type h))
    × ((kinds : ℕ → Option SimpleType) (Γ : Scope) (g : LfGoal) → ShapedGoalOver kinds Γ g ↔ ShapedType kinds Γ (goal_type g))
