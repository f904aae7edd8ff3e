-- The laws of typing of eta-long forms.
use Rattle.std.specs.Prelude.{◌≡◌, ℕ, ◌++◌, length, Some}
use Rattle.lf_definitions.specs.Syntax.{LfHead, LfTerm, at, Spine, joined, lams, arity, SimpleType, base, arrows, shape_of, shapes_of_types, LfType, family, pis, Context}
use Rattle.lf_definitions.specs.Renaming.{next_by, rename_spine, rename_context}
use Rattle.lf_definitions.specs.Substitution.{stays, push_all, SubstitutedType}
use Rattle.lf_definitions.specs.Expansion.{own_variables, eta}
use Rattle.lf_definitions.specs.Typing.{Typing, with_context, Typed, TypedSpine, Kinds, shapes_of, shapes_of_kinds}
use Rattle.lf_definitions.specs.ShapedGoals.{ShapedContext, ShapedTyping}

-- Where all types of heads are shaped, the eta-long form of a head has the head's type.
abbrev pub EtaFormsHaveTheirTypes : Type 0
EtaFormsHaveTheirTypes = (kinds : Kinds) (Γ : Typing) → ShapedTyping kinds Γ → (h : LfHead) (a : LfType) → Γ h ≡ Some a → Typed Γ (eta h (shape_of a)) a

-- In a context, the context's own variables have the types of its entries, as they are seen from there.
abbrev pub OwnVariablesAreTyped : Type 0
OwnVariablesAreTyped =
    (kinds : Kinds) (Γ : Typing) → ShapedTyping kinds Γ → (ctx : Context) → ShapedContext (shapes_of_kinds kinds) (shapes_of Γ) ctx →
    TypedSpine (with_context ctx Γ) stays (own_variables (arrows (shapes_of_types ctx) base)) (rename_context (next_by (length ctx)) ctx)

-- a head with its first arguments, made eta-long at the shape of what it still takes
abbrev pub expanded : LfHead → Spine → SimpleType → LfTerm
expanded h ts s = lams (arity s) (at (next_by (arity s) h) (joined (rename_spine (next_by (arity s)) ts) (own_variables s)))

-- Where the first arguments of a head have their types, it has so the type of what it still takes.
abbrev pub ExpansionsHaveTheirTypes : Type 0
ExpansionsHaveTheirTypes =
    (kinds : Kinds) (Γ : Typing) → ShapedTyping kinds Γ → (h : LfHead) (first missing : Context) (f : ℕ) (args ts : Spine) (b : LfType) →
    Γ h ≡ Some (pis (first ++ missing) (family f args)) → TypedSpine Γ stays ts first → SubstitutedType (push_all ts stays) (pis missing (family f args)) b →
    Typed Γ (expanded h ts (shape_of b)) b
