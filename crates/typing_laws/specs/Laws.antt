-- The laws of typing under replacements.
use Rattle.std.specs.Prelude.{ℕ, length}
use Rattle.lf_definitions.specs.Syntax.{LfTerm, Spine, LfType, Context}
use Rattle.lf_definitions.specs.Substitution.{stays, Replacement, push_all, Substituted, SubstitutedSpine, Substitutes, SubstitutesSpine, SubstitutedType, SubstitutedContext}
use Rattle.lf_definitions.specs.Typing.{Typing, with_context, Typed, TypedSpine, Kinds, Formed, FormedContext, shapes_of, shapes_of_kinds}
use Rattle.lf_definitions.specs.ShapedGoals.{ShapedContext, ShapedTyping}
use Rattle.lf_definitions.specs.Laws.{image}
use Rattle.typing_laws.specs.TypedReplacements.{GoesTyped, KeepsKinds, IsShapedIn}

-- Where all types of heads are shaped, a replacement that goes from one typing to another keeps types: the result of a term has the result of its type, and the
-- results of arguments have the results of their binders.
abbrev pub ReplacementsKeepTypes : Type 0
ReplacementsKeepTypes =
    (kinds : Kinds) (Γ Δ : Typing) (p : ℕ) (σ : Replacement) → ShapedTyping kinds Γ → ShapedTyping kinds Δ → GoesTyped p Γ Δ σ →
    ((t r : LfTerm) (a c : LfType) → IsShapedIn kinds Γ a → Typed Γ t a → SubstitutedType σ a c → Substituted σ t r → Typed Δ r c)
    × ((ts vs : Spine) (bs cs : Context) → ShapedContext (shapes_of_kinds kinds) (shapes_of Γ) bs → TypedSpine Γ stays ts bs → SubstitutedContext σ bs cs → SubstitutedSpine σ ts vs →
    TypedSpine Δ stays vs cs)

-- A typed term and its type have results under a replacement that goes from one typing to another.
abbrev pub TypedTermsHaveResults : Type 0
TypedTermsHaveResults =
    (kinds : Kinds) (Γ Δ : Typing) (p : ℕ) (σ : Replacement) → GoesTyped p Γ Δ σ → (t : LfTerm) (a : LfType) → IsShapedIn kinds Γ a → Typed Γ t a →
    ((r : LfTerm) × Substituted σ t r) × ((c : LfType) × SubstitutedType σ a c)

-- A replacement that goes from one typing to another, and leaves the kinds as they are, keeps well-formed types and contexts.
abbrev pub ReplacementsKeepWhatIsFormed : Type 0
ReplacementsKeepWhatIsFormed =
    (kinds : Kinds) (Γ Δ : Typing) (p : ℕ) (σ : Replacement) → ShapedTyping kinds Γ → ShapedTyping kinds Δ → GoesTyped p Γ Δ σ → KeepsKinds kinds σ →
    ((a c : LfType) → Formed kinds Γ a → SubstitutedType σ a c → Formed kinds Δ c)
    × ((ctx more : Context) → FormedContext kinds Γ ctx → SubstitutedContext σ ctx more → FormedContext kinds Δ more)

-- What is asked of a list that is put for the variables of `inner`, under local binders that become `placed`: it is typed against `inner`, and all types are shaped.
pub record IsPut (kinds : Kinds) (Γ : Typing) (inner : Context) (sub : Spine) (local placed : Context) : Type 0 where
  pub outside : ShapedTyping kinds Γ
  pub of_inner : ShapedContext (shapes_of_kinds kinds) (shapes_of Γ) inner
  pub of_local : ShapedContext (shapes_of_kinds kinds) (shapes_of (with_context inner Γ)) local
  pub typed : TypedSpine Γ stays sub inner
  pub placing : SubstitutedContext (push_all sub stays) local placed

-- Terms under these binders keep their types, and so do arguments.
abbrev pub SubstitutionsKeepTypes : Type 0
SubstitutionsKeepTypes =
    (kinds : Kinds) (Γ : Typing) (inner local placed : Context) (sub : Spine) → IsPut kinds Γ inner sub local placed →
    ((t r : LfTerm) (a c : LfType) → IsShapedIn kinds (with_context local (with_context inner Γ)) a → Typed (with_context local (with_context inner Γ)) t a →
    SubstitutedType (image sub (length local)) a c → Substitutes sub (length local) t r → Typed (with_context placed Γ) r c)
    × ((ts vs : Spine) (bs cs : Context) → ShapedContext (shapes_of_kinds kinds) (shapes_of (with_context local (with_context inner Γ))) bs →
    TypedSpine (with_context local (with_context inner Γ)) stays ts bs → SubstitutedContext (image sub (length local)) bs cs → SubstitutesSpine sub (length local) ts vs →
    TypedSpine (with_context placed Γ) stays vs cs)

-- Types and contexts that are well formed under these binders stay so.
abbrev pub SubstitutionsKeepWhatIsFormed : Type 0
SubstitutionsKeepWhatIsFormed =
    (kinds : Kinds) (Γ : Typing) (inner local placed : Context) (sub : Spine) → IsPut kinds Γ inner sub local placed →
    ((a c : LfType) → Formed kinds (with_context local (with_context inner Γ)) a → SubstitutedType (image sub (length local)) a c → Formed kinds (with_context placed Γ) c)
    × ((ctx more : Context) → FormedContext kinds (with_context local (with_context inner Γ)) ctx → SubstitutedContext (image sub (length local)) ctx more →
    FormedContext kinds (with_context placed Γ) more)
