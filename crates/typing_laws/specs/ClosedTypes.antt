-- Types and kinds that speak of no variable, and the laws that say where they are found.
use Rattle.std.specs.Prelude.{◌≡◌, ℕ, List, All, Some}
use Rattle.lf_definitions.specs.Syntax.{constant, metavariable, LfType, LfKind}
use Rattle.lf_definitions.specs.Renaming.{Renaming, rename_type, rename_context}
use Rattle.lf_definitions.specs.Substitution.{stays, Replacement, SubstitutedType}
use Rattle.lf_definitions.specs.Occurrence.{OccursInType, OccursInContext}
use Rattle.lf_definitions.specs.Typing.{Typing, Kinds, LfGoal, goal_type}
use Rattle.lf_definitions.specs.Signatures.{LfSignature, constant_types, kinds_in, typing_in, FormedSignature}
use Rattle.lf_definitions.specs.GoalLists.{FormedGoals}
use Rattle.lf_definitions.specs.ShapedGoals.{ShapedGoals, ShapedTyping}
use Rattle.lf_definitions.specs.Laws.{Closed}
use Rattle.lf_definitions.specs.TypingLaws.{ClosedKinds}
use Rattle.typing_laws.specs.TypedReplacements.{KeepsKinds}

-- The types of constants and of metavariables speak of no variable.
abbrev pub HasClosedGlobals : Typing → Type 0
HasClosedGlobals Γ =
    ((c : ℕ) (a : LfType) → Γ (constant c) ≡ Some a → Closed a)
    × ((g : ℕ) (a : LfType) → Γ (metavariable g) ≡ Some a → Closed a)

-- Where all types of heads are shaped, those of constants and metavariables are closed, and so are the kinds.
abbrev pub ShapedTypingsAreClosed : Type 0
ShapedTypingsAreClosed = (kinds : Kinds) (Γ : Typing) → ShapedTyping kinds Γ → HasClosedGlobals Γ × ClosedKinds kinds

-- a type that mentions no metavariable
abbrev pub HasNoMetavariable : LfType → Type 0
HasNoMetavariable a = (g : ℕ) → OccursInType (metavariable g) a → ⊥

-- In a well-formed signature the types of constants and the kinds are closed, and mention no metavariable.
abbrev pub SignaturesAreClosed : Type 0
SignaturesAreClosed =
    (sig : LfSignature) → FormedSignature sig →
    (All Closed (constant_types sig) × ClosedKinds (kinds_in sig))
    × All HasNoMetavariable (constant_types sig)
    × ((f : ℕ) (kind : LfKind) → kinds_in sig f ≡ Some kind → (g : ℕ) → OccursInContext (metavariable g) kind → ⊥)

-- A replacement that keeps constants leaves the types and kinds of a well-formed signature as they are, and so does a renaming that keeps constants.
abbrev pub SignaturesStay : Type 0
SignaturesStay =
    (sig : LfSignature) → FormedSignature sig →
    ((σ : Replacement) → ((c : ℕ) → σ (constant c) ≡ stays (constant c)) → All (λ a. SubstitutedType σ a a) (constant_types sig) × KeepsKinds (kinds_in sig) σ)
    × ((ξ : Renaming) → ((c : ℕ) → ξ (constant c) ≡ constant c) →
    All (λ a. rename_type ξ a ≡ a) (constant_types sig) × ((f : ℕ) (kind : LfKind) → kinds_in sig f ≡ Some kind → rename_context ξ kind ≡ kind))

-- The types of well-formed goals are closed, and the goals are shaped.
abbrev pub FormedGoalsAreClosed : Type 0
FormedGoalsAreClosed = (sig : LfSignature) (goals : List LfGoal) → FormedGoals sig goals → All (λ g. Closed (goal_type g)) goals × ShapedGoals sig goals

-- Over a well-formed signature and well-formed goals, constants and metavariables have closed types in every context.
abbrev pub TypingsAreClosed : Type 0
TypingsAreClosed = (sig : LfSignature) (goals : List LfGoal) → FormedSignature sig → FormedGoals sig goals → (ctx : List LfType) → HasClosedGlobals (typing_in sig goals ctx)
