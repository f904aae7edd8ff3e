-- The laws of opening a type.
use Rattle.std.specs.Prelude.{◌≡◌, ◌≢◌, ◌⊎◌, ℕ, ◌+◌, ◌<◌, ◌≤◌, true, List, [], ◌++◌, length, slice_get, Some, All, AllPairs}
use Rattle.lf_definitions.specs.Syntax.{LfHead, metavariable, at, LfType, atomic, Context, shape_of, binders_of}
use Rattle.lf_definitions.specs.Renaming.{rename_type, rename_context}
use Rattle.lf_definitions.specs.Shaping.{ShapedSpine}
use Rattle.lf_definitions.specs.Occurrence.{OccursInSpine, OccursInType, OccursInContext, OccursInGoal}
use Rattle.lf_definitions.specs.Substitution.{stays}
use Rattle.lf_definitions.specs.Typing.{LfGoal, Typed, TypedSpine, Formed, FormedContext}
use Rattle.lf_definitions.specs.Signatures.{LfSignature, kinds_in, typing_in}
use Rattle.lf_definitions.specs.ShapedGoals.{scope_in, ShapedTypeIn, ShapedContextIn, ShapedSignature, ShapedGoal, ShapedGoals}
use Rattle.lf_definitions.specs.GoalLists.{AreDistinct, FormedGoal, FormedGoals}
use Rattle.lf_definitions.specs.Instantiation.{metavariables}
use Rattle.opening_laws.specs.Openings.{is_kept, keeping, AreKept, LfOpened, IsOpened, unfixed_from, rename_opened}
use Rattle.opening_laws.specs.Conditions.{FixesArgument, MayBeOpened, FixedAreTyped}

-- All of a context's first entries are kept.
abbrev pub KeepsAll : List ℕ → ℕ → Type 0
KeepsAll kept count = (place : ℕ) → place < count → is_kept kept place ≡ true

-- Where all of the context is kept, the conditions but for those on what is mentioned are enough; the kept entries are the context, and no head is seen otherwise.
abbrev pub AllMayBeKept : Type 0
AllMayBeKept =
    (ctx : Context) (kept : List ℕ) → KeepsAll kept (length ctx) →
    ((sig : LfSignature) (goals : List LfGoal) (fixed : List (ℕ × ℕ)) (first : ℕ) (type : LfType) → AreDistinct goals → All (λ g. g.id < first) goals →
    ShapedContextIn sig goals [] ctx → ShapedTypeIn sig goals ctx type → AllPairs (λ m n. m < n) kept → All (λ place. place < length ctx) kept →
    AllPairs (λ x y. x.0 ≢ y.0) fixed → All (FixesArgument ctx type) fixed → MayBeOpened sig goals ctx kept fixed first type)
    × AreKept kept 0 ctx ctx
    × ((h : LfHead) → keeping kept (length ctx) h ≡ h)

-- A type is opened in one way at most.
abbrev pub OpeningsAreUnique : Type 0
OpeningsAreUnique =
    (ctx : Context) (kept : List ℕ) (fixed : List (ℕ × ℕ)) (first : ℕ) (type : LfType) (result other : LfOpened) →
    IsOpened ctx kept fixed first type result → IsOpened ctx kept fixed first type other → other ≡ result

-- Under the conditions there is exactly one result.
abbrev pub TypesAreOpened : Type 0
TypesAreOpened =
    (sig : LfSignature) (goals : List LfGoal) (ctx : Context) (kept : List ℕ) (fixed : List (ℕ × ℕ)) (first : ℕ) (type : LfType) → MayBeOpened sig goals ctx kept fixed first type →
    (result : LfOpened) × IsOpened ctx kept fixed first type result × ((other : LfOpened) → IsOpened ctx kept fixed first type other → other ≡ result)

-- Its terms are shaped as arguments of the type, its conclusion as an atom, and the fresh goals as goals, all among the goals and the fresh ones.
abbrev pub OpeningsAreShaped : Type 0
OpeningsAreShaped =
    (sig : LfSignature) (goals : List LfGoal) (ctx : Context) (kept : List ℕ) (fixed : List (ℕ × ℕ)) (first : ℕ) (type : LfType) → MayBeOpened sig goals ctx kept fixed first type →
    (result : LfOpened) → IsOpened ctx kept fixed first type result →
    ShapedSpine (scope_in sig (goals ++ result.fresh) ctx) result.terms (shape_of type)
    × ShapedTypeIn sig (goals ++ result.fresh) ctx (atomic result.end)
    × All (ShapedGoal sig (goals ++ result.fresh)) result.fresh
    × (ShapedGoals sig goals → ShapedGoals sig (goals ++ result.fresh))

-- There is one fresh goal for each argument that isn't fixed, in the order of the arguments, and their numbers are `first`, `first + 1` and so on.
abbrev pub FreshGoalsAreNumbered : Type 0
FreshGoalsAreNumbered =
    (ctx : Context) (kept : List ℕ) (fixed : List (ℕ × ℕ)) (first : ℕ) (type : LfType) (result : LfOpened) → IsOpened ctx kept fixed first type result →
    (length result.fresh ≡ length (unfixed_from fixed 0 type))
    × ((k : ℕ) (g : LfGoal) → slice_get result.fresh k ≡ Some g → g.id ≡ first + k)

-- A metavariable that occurs in the type, or one of the numbers from `first` to before `last`.
abbrev pub IsOfTypeOrFresh : LfType → ℕ → ℕ → ℕ → Type 0
IsOfTypeOrFresh type first last m = OccursInType (metavariable m) type ⊎ ((first ≤ m) × (m < last))

-- A fresh goal mentions no metavariable but those of the context and of the type, and earlier fresh ones. The terms mention only fresh ones, and the conclusion only
-- these and those of the type.
abbrev pub OpeningsMention : Type 0
OpeningsMention =
    (ctx : Context) (kept : List ℕ) (fixed : List (ℕ × ℕ)) (first : ℕ) (type : LfType) (result : LfOpened) → IsOpened ctx kept fixed first type result → (m : ℕ) →
    ((k : ℕ) (g : LfGoal) → slice_get result.fresh k ≡ Some g → OccursInGoal (metavariable m) g → OccursInContext (metavariable m) ctx ⊎ IsOfTypeOrFresh type first (first + k) m)
    × (OccursInSpine (metavariable m) result.terms → (first ≤ m) × (m < first + length result.fresh))
    × (OccursInType (metavariable m) (atomic result.end) → IsOfTypeOrFresh type first (first + length result.fresh) m)

-- Where a renaming of metavariables takes the fresh numbers to those from `other` on, what is opened from the renamed context and type is the renamed result.
abbrev pub OpeningsAreRenamed : Type 0
OpeningsAreRenamed =
    (ρ : ℕ → ℕ) (first other : ℕ) → ((k : ℕ) → ρ (first + k) ≡ other + k) →
    (ctx : Context) (kept : List ℕ) (fixed : List (ℕ × ℕ)) (type : LfType) (result : LfOpened) → IsOpened ctx kept fixed first type result →
    IsOpened (rename_context (metavariables ρ) ctx) kept fixed other (rename_type (metavariables ρ) type) (rename_opened ρ result)
    × ((x : LfOpened) → IsOpened (rename_context (metavariables ρ) ctx) kept fixed other (rename_type (metavariables ρ) type) x → x ≡ rename_opened ρ result)

-- Among the goals and the fresh ones, the terms are typed against the binders of the type, so that a head of the type with these arguments has the conclusion as its
-- type; the conclusion is well formed, and so are the fresh goals.
abbrev pub IsWellTyped : LfSignature → List LfGoal → Context → LfType → LfOpened → Type 0
IsWellTyped sig goals ctx type result =
    TypedSpine (typing_in sig (goals ++ result.fresh) ctx) stays result.terms (binders_of type)
    × ((h : LfHead) → typing_in sig (goals ++ result.fresh) ctx h ≡ Some type → Typed (typing_in sig (goals ++ result.fresh) ctx) (at h result.terms) (atomic result.end))
    × Formed (kinds_in sig) (typing_in sig (goals ++ result.fresh) ctx) (atomic result.end)
    × All (FormedGoal sig (goals ++ result.fresh)) result.fresh
    × (FormedGoals sig goals → FormedGoals sig (goals ++ result.fresh))

-- This holds where the context and the type are well formed, and each argument that is fixed asks for the type of its hypothesis; so it does where none is fixed.
abbrev pub OpeningsAreTyped : Type 0
OpeningsAreTyped =
    (sig : LfSignature) → ShapedSignature sig → (goals : List LfGoal) → ShapedGoals sig goals → (ctx : Context) → FormedContext (kinds_in sig) (typing_in sig goals []) ctx →
    (type : LfType) → Formed (kinds_in sig) (typing_in sig goals ctx) type → (kept : List ℕ) (first : ℕ) (result : LfOpened) →
    ((fixed : List (ℕ × ℕ)) → MayBeOpened sig goals ctx kept fixed first type → IsOpened ctx kept fixed first type result →
    FixedAreTyped (typing_in sig goals ctx) (length ctx) fixed stays 0 type result.terms → IsWellTyped sig goals ctx type result)
    × (MayBeOpened sig goals ctx kept [] first type → IsOpened ctx kept [] first type result → IsWellTyped sig goals ctx type result)
