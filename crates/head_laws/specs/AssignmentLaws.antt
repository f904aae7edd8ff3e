-- The laws of assignments: one after another, and together with substitution.
use Rattle.std.specs.Prelude.{◌≡◌, ◌↔◌, ℕ, ◌+◌, List, length, Option, Some}
use Rattle.lf_definitions.specs.Syntax.{bound, metavariable, LfTerm, Spine, LfType, Context, SimpleType}
use Rattle.lf_definitions.specs.Shaping.{Scope, under_all, Shaped, ShapedSpine, ShapedType, ShapedList}
use Rattle.lf_definitions.specs.ShapedGoals.{ShapedContext}
use Rattle.lf_definitions.specs.Substitution.{Substitutes, SubstitutesSpine, SubstitutedType, SubstitutedContext}
use Rattle.lf_definitions.specs.Replacements.{Goes, Then}
use Rattle.lf_definitions.specs.Occurrence.{OccursIn}
use Rattle.lf_definitions.specs.Instantiation.{Assignment, assigned, instantiating, Instantiated, InstantiatedSpine, InstantiatedType, InstantiatedContext, InstantiatedGoal}
use Rattle.lf_definitions.specs.Laws.{image}
use Rattle.lf_definitions.specs.Typing.{LfGoal}
use Rattle.head_laws.specs.ReplacementLaws.{ShapedGoalOver}

-- `ρ` does to each metavariable that is known what `σ` and then `τ` do.
abbrev pub IsAfter : Scope → Assignment → Assignment → Assignment → Type 0
IsAfter Γ σ τ ρ = (g : ℕ) (s : SimpleType) → Γ (metavariable g) ≡ Some s → Then (instantiating τ) (assigned g (σ g)) (assigned g (ρ g))

-- One assignment after another is one that does to each metavariable that is known what they do.
abbrev pub AssignmentsCompose : Type 0
AssignmentsCompose =
    (p q : ℕ) (Γ Δ Θ : Scope) (σ τ ρ : Assignment) → Goes p Γ Δ (instantiating σ) → Goes q Δ Θ (instantiating τ) → IsAfter Γ σ τ ρ →
    ((t r x : LfTerm) (s : SimpleType) → Shaped Γ t s → Instantiated σ t r → Instantiated τ r x ↔ Instantiated ρ t x)
    × ((ts rs xs : Spine) (s : SimpleType) → ShapedSpine Γ ts s → InstantiatedSpine σ ts rs → InstantiatedSpine τ rs xs ↔ InstantiatedSpine ρ ts xs)
    × ((kinds : ℕ → Option SimpleType) (a b c : LfType) → ShapedType kinds Γ a → InstantiatedType σ a b → InstantiatedType τ b c ↔ InstantiatedType ρ a c)
    × ((kinds : ℕ → Option SimpleType) (ctx first second : Context) → ShapedContext kinds Γ ctx → InstantiatedContext σ ctx first →
    InstantiatedContext τ first second ↔ InstantiatedContext ρ ctx second)
    × ((kinds : ℕ → Option SimpleType) (g h k : LfGoal) → ShapedGoalOver kinds Γ g → InstantiatedGoal σ g h → InstantiatedGoal τ h k ↔ InstantiatedGoal ρ g k)

-- There is such an assignment, and each goes from the first scope to the last.
abbrev pub AssignmentsHaveAComposite : Type 0
AssignmentsHaveAComposite =
    (p q : ℕ) (Γ Δ Θ : Scope) (σ τ : Assignment) → Goes p Γ Δ (instantiating σ) → Goes q Δ Θ (instantiating τ) →
    ((ρ : Assignment) × IsAfter Γ σ τ ρ) × ((ρ : Assignment) → IsAfter Γ σ τ ρ → Goes (p + q) Γ Θ (instantiating ρ))

-- None of the terms that are assigned speaks of a variable.
abbrev pub AssignsClosedTerms : Assignment → Type 0
AssignsClosedTerms σ = (g n : ℕ) (u : LfTerm) → σ g ≡ Some u → OccursIn (bound n) u → ⊥

-- What closed terms are assigned may be put before a list is substituted, into it too, or afterwards.
abbrev pub InstantiationGoesAlongWithSubstitution : Type 0
InstantiationGoesAlongWithSubstitution =
    (σ : Assignment) → AssignsClosedTerms σ → (p : ℕ) (outer target : Scope) → Goes p outer target (instantiating σ) →
    (inner local : List SimpleType) (sub later : Spine) → ShapedList outer sub inner → InstantiatedSpine σ sub later →
    ((s : SimpleType) (t u r x : LfTerm) → Shaped (under_all local (under_all inner outer)) t s → Instantiated σ t u → Substitutes sub (length local) t r →
    Instantiated σ r x ↔ Substitutes later (length local) u x)
    × ((s : SimpleType) (ts us rs xs : Spine) → ShapedSpine (under_all local (under_all inner outer)) ts s → InstantiatedSpine σ ts us → SubstitutesSpine sub (length local) ts rs →
    InstantiatedSpine σ rs xs ↔ SubstitutesSpine later (length local) us xs)
    × ((kinds : ℕ → Option SimpleType) (a b c d : LfType) → ShapedType kinds (under_all local (under_all inner outer)) a → InstantiatedType σ a b →
    SubstitutedType (image sub (length local)) a c → InstantiatedType σ c d ↔ SubstitutedType (image later (length local)) b d)
    × ((kinds : ℕ → Option SimpleType) (ctx first second last : Context) → ShapedContext kinds (under_all local (under_all inner outer)) ctx → InstantiatedContext σ ctx first →
    SubstitutedContext (image sub (length local)) ctx second → InstantiatedContext σ second last ↔ SubstitutedContext (image later (length local)) first last)
