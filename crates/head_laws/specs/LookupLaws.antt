-- The laws of what typing looks up: the heads that occur, and no others.
use Rattle.std.specs.Prelude.{◌≡◌, ◌↔◌, ℕ, List, Some}
use Rattle.lf_definitions.specs.Syntax.{LfHead, metavariable, LfTerm, LfType, Context}
use Rattle.lf_definitions.specs.Occurrence.{OccursIn, OccursInType, OccursInContext}
use Rattle.lf_definitions.specs.Typing.{Typing, Typed, Kinds, Formed, FormedContext, LfGoal, type_of_metavariable}
use Rattle.lf_definitions.specs.Failures.{FailsTerm, FailsTypeFrom, FailsContextFrom}
use Rattle.lf_definitions.specs.Signatures.{LfSignature, kinds_in, typing_in}

-- Where the heads that occur have the same types, the same is typed and well formed, and the first failures are the same.
abbrev pub TypingLooksUpWhatOccurs : Type 0
TypingLooksUpWhatOccurs =
    (Γ Δ : Typing) →
    ((t : LfTerm) (a : LfType) → ((h : LfHead) → OccursIn h t → Γ h ≡ Δ h) → Typed Γ t a → Typed Δ t a)
    × ((kinds : Kinds) (a : LfType) → ((h : LfHead) → OccursInType h a → Γ h ≡ Δ h) → Formed kinds Γ a → Formed kinds Δ a)
    × ((kinds : Kinds) (ctx : Context) → ((h : LfHead) → OccursInContext h ctx → Γ h ≡ Δ h) → FormedContext kinds Γ ctx → FormedContext kinds Δ ctx)
    × ((t : LfTerm) (a : LfType) (path : List ℕ) → ((h : LfHead) → OccursIn h t → Γ h ≡ Δ h) → FailsTerm Γ t a path → FailsTerm Δ t a path)
    × ((kinds : Kinds) (a : LfType) (child : ℕ) (path : List ℕ) → ((h : LfHead) → OccursInType h a → Γ h ≡ Δ h) → FailsTypeFrom kinds Γ a child path → FailsTypeFrom kinds Δ a child path)
    × ((kinds : Kinds) (ctx : Context) (child : ℕ) (path : List ℕ) → ((h : LfHead) → OccursInContext h ctx → Γ h ≡ Δ h) →
    FailsContextFrom kinds Γ ctx child path → FailsContextFrom kinds Δ ctx child path)

-- Each head that occurs in what is typed or well formed has a type.
abbrev pub TypedHeadsAreKnown : Type 0
TypedHeadsAreKnown =
    (Γ : Typing) (h : LfHead) →
    ((t : LfTerm) (a : LfType) → Typed Γ t a → OccursIn h t → (b : LfType) × (Γ h ≡ Some b))
    × ((kinds : Kinds) (a : LfType) → Formed kinds Γ a → OccursInType h a → (b : LfType) × (Γ h ≡ Some b))
    × ((kinds : Kinds) (ctx : Context) → FormedContext kinds Γ ctx → OccursInContext h ctx → (b : LfType) × (Γ h ≡ Some b))

-- Two lists of goals give the same type to each metavariable of which `P` holds.
abbrev pub GoalsAgree : List LfGoal → List LfGoal → (ℕ → Type 0) → Type 0
GoalsAgree goals other P = (g : ℕ) → P g → type_of_metavariable goals g ≡ type_of_metavariable other g

-- Where they do so for the metavariables that occur, typing and failing among the one is typing and failing among the other.
abbrev pub GoalsMayChange : Type 0
GoalsMayChange =
    (sig : LfSignature) (goals other : List LfGoal) (ctx : Context) →
    ((t : LfTerm) → GoalsAgree goals other (λ g. OccursIn (metavariable g) t) →
    ((a : LfType) → Typed (typing_in sig goals ctx) t a ↔ Typed (typing_in sig other ctx) t a)
    × ((a : LfType) (path : List ℕ) → FailsTerm (typing_in sig goals ctx) t a path ↔ FailsTerm (typing_in sig other ctx) t a path))
    × ((a : LfType) → GoalsAgree goals other (λ g. OccursInType (metavariable g) a) →
    (Formed (kinds_in sig) (typing_in sig goals ctx) a ↔ Formed (kinds_in sig) (typing_in sig other ctx) a)
    × ((child : ℕ) (path : List ℕ) → FailsTypeFrom (kinds_in sig) (typing_in sig goals ctx) a child path ↔ FailsTypeFrom (kinds_in sig) (typing_in sig other ctx) a child path))
    × ((more : Context) → GoalsAgree goals other (λ g. OccursInContext (metavariable g) more) →
    (FormedContext (kinds_in sig) (typing_in sig goals ctx) more ↔ FormedContext (kinds_in sig) (typing_in sig other ctx) more)
    × ((child : ℕ) (path : List ℕ) → FailsContextFrom (kinds_in sig) (typing_in sig goals ctx) more child path ↔ FailsContextFrom (kinds_in sig) (typing_in sig other ctx) more child path))
