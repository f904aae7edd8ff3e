-- The laws of typing: what is typed, where typing first fails, and how both go along with renamings and with a signature that grows.
use Rattle.std.specs.Prelude.{◌≡◌, ◌≢◌, ◌⊎◌, ℕ, List, [], ◌++◌, Some, All, AllPairs}
use Rattle.lf_definitions.specs.Syntax.{LfTerm, LfType, Context, LfKind}
use Rattle.lf_definitions.specs.Renaming.{rename_type, rename_context}
use Rattle.lf_definitions.specs.Typing.{Typing, Typed, Kinds, Formed, FormedContext, LfGoal, shapes_of, shapes_of_kinds}
use Rattle.lf_definitions.specs.Failures.{FailsTerm, FailsType, FailsContextFrom}
use Rattle.lf_definitions.specs.Signatures.{LfSignature, names_of, kinds_in, typing_in, FormedEntry, FormedSignature}
use Rattle.lf_definitions.specs.ShapedGoals.{ShapedContext, ShapedTypeIn, ShapedContextIn, ShapedSignature, ShapedGoals}
use Rattle.lf_definitions.specs.Laws.{variables, KeepsTypes}

-- What fails at a path isn't typed or well formed.
abbrev pub FailuresExcludeDerivations : Type 0
FailuresExcludeDerivations =
    ((Γ : Typing) (t : LfTerm) (a : LfType) (path : List ℕ) → FailsTerm Γ t a path → Typed Γ t a → ⊥)
    × ((kinds : Kinds) (Γ : Typing) (a : LfType) (path : List ℕ) → FailsType kinds Γ a path → Formed kinds Γ a → ⊥)
    × ((kinds : Kinds) (Γ : Typing) (ctx : Context) (child : ℕ) (path : List ℕ) → FailsContextFrom kinds Γ ctx child path → FormedContext kinds Γ ctx → ⊥)

-- The path of the first failure is unique.
abbrev pub FirstFailuresAreUnique : Type 0
FirstFailuresAreUnique =
    ((Γ : Typing) (t : LfTerm) (a : LfType) (p q : List ℕ) → FailsTerm Γ t a p → FailsTerm Γ t a q → p ≡ q)
    × ((kinds : Kinds) (Γ : Typing) (a : LfType) (p q : List ℕ) → FailsType kinds Γ a p → FailsType kinds Γ a q → p ≡ q)
    × ((kinds : Kinds) (Γ : Typing) (ctx : Context) (child : ℕ) (p q : List ℕ) → FailsContextFrom kinds Γ ctx child p → FailsContextFrom kinds Γ ctx child q → p ≡ q)

abbrev pub HoldsOrFails : Type 0 → (List ℕ → Type 0) → Type 0
HoldsOrFails holds fails = holds ⊎ (path : List ℕ) × fails path

-- Where signature, goals, context and expected type are shaped, each term has the type or fails at a path. Each type is well formed there, or fails at a path,
-- and so is what comes after the context, or a kind.
abbrev pub ShapedChecksHaveAResult : Type 0
ShapedChecksHaveAResult =
    (sig : LfSignature) (goals : List LfGoal) (ctx : Context) → ShapedSignature sig → ShapedGoals sig goals → ShapedContextIn sig goals [] ctx →
    ((t : LfTerm) (a : LfType) → ShapedTypeIn sig goals ctx a → HoldsOrFails (Typed (typing_in sig goals ctx) t a) (FailsTerm (typing_in sig goals ctx) t a))
    × ((a : LfType) → HoldsOrFails (Formed (kinds_in sig) (typing_in sig goals ctx) a) (FailsType (kinds_in sig) (typing_in sig goals ctx) a))
    × ((more : Context) (child : ℕ) → HoldsOrFails (FormedContext (kinds_in sig) (typing_in sig goals ctx) more) (FailsContextFrom (kinds_in sig) (typing_in sig goals ctx) more child))

-- Well-formed contexts and kinds are shaped, and so are well-formed signatures.
abbrev pub FormedContextsAreShaped : Type 0
FormedContextsAreShaped =
    ((kinds : Kinds) (Γ : Typing) (ctx : Context) → FormedContext kinds Γ ctx → ShapedContext (shapes_of_kinds kinds) (shapes_of Γ) ctx)
    × ((sig : LfSignature) → FormedSignature sig → ShapedSignature sig)

-- Kinds that speak of no variable.
abbrev pub ClosedKinds : Kinds → Type 0
ClosedKinds kinds = (f : ℕ) (kind : LfKind) → kinds f ≡ Some kind → (v : ℕ → ℕ) → rename_context (variables v) kind ≡ kind

-- A renaming of variables that keeps the types of heads keeps what is well formed.
abbrev pub RenamingsKeepWhatIsFormed : Type 0
RenamingsKeepWhatIsFormed =
    (kinds : Kinds) → ClosedKinds kinds → (v : ℕ → ℕ) (Γ Δ : Typing) → KeepsTypes v Γ Δ →
    ((a : LfType) → Formed kinds Γ a → Formed kinds Δ (rename_type (variables v) a))
    × ((ctx : Context) → FormedContext kinds Γ ctx → FormedContext kinds Δ (rename_context (variables v) ctx))

-- What is typed or well formed over a signature is so over each that begins with it.
abbrev pub SignaturesGrow : Type 0
SignaturesGrow =
    (sig more : LfSignature) (goals : List LfGoal) (ctx : Context) →
    ((t : LfTerm) (a : LfType) → Typed (typing_in sig goals ctx) t a → Typed (typing_in (sig ++ more) goals ctx) t a)
    × ((a : LfType) → Formed (kinds_in sig) (typing_in sig goals ctx) a → Formed (kinds_in (sig ++ more)) (typing_in (sig ++ more) goals ctx) a)
    × ((rest : Context) → FormedContext (kinds_in sig) (typing_in sig goals ctx) rest → FormedContext (kinds_in (sig ++ more)) (typing_in (sig ++ more) goals ctx) rest)

-- In a well-formed signature each entry is well formed over the whole, and the names differ.
abbrev pub EntriesAreFormed : Type 0
EntriesAreFormed = (sig : LfSignature) → FormedSignature sig → All (FormedEntry sig) sig × AllPairs (λ name other. name ≢ other) (names_of sig)
