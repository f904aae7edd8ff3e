-- Where the types of all heads and the kinds of all families are shaped: it stays so under binders, and so it is over shaped signatures, goals and contexts.
use Rattle.std.proofs.Common.{◌≡◌, ℕ, zero, suc, Bool, true, false, Option, Some, None, option_map, if◌then◌else◌, nat_eq, List, [], ◌∷◌, All, refl, sym, ap, ◌∙◌, subst}
use Rattle.std.proofs.lemmas.List.Elements.{All-head, All-tail, All-nil, All-cons}
use mathlib.Core.Path.{fun_ext}
use Rattle.lf_definitions.specs.Syntax.{LfHead, bound, constant, metavariable, SimpleType, LfType, Context, LfKind, pis, shape_of, shapes_of_types, atomic}
use Rattle.lf_definitions.specs.Renaming.{next, raise_type}
use Rattle.lf_definitions.specs.Shaping.{Scope, under, under_all, shape_at, shape_of_metavariable, globals, ShapedType, shaped_pi}
use Rattle.lf_definitions.specs.Typing.{Typing, with_variable, with_context, Kinds, FormedContext, formed_empty, formed_entry, LfGoal, goal_type, type_at, type_of_metavariable, kinds_of, typed_globals, shapes_of, shapes_of_kinds}
use Rattle.lf_definitions.specs.Signatures.{family_entry, constant_entry, LfSignature, family_kinds, constant_types, kinds_in, typing_in, FormedEntry, FormedSignature}
use Rattle.lf_definitions.specs.ShapedGoals.{ShapedContext, shaped_empty, shaped_entry, shapes_of_goals, kind_shapes_in, scope_in, ShapedTypeIn, ShapedContextIn, ShapedSignature, ShapedGoal, ShapedGoals, without_variables, ShapedTyping}
use Rattle.lf_definitions.proofs.Renaming.{same_head, rename_type-same_head, KeepsShapes-next}
use Rattle.lf_definitions.proofs.Types.{ShapedType-rename_type}
use Rattle.lf_definitions.proofs.Typing.{shapes_of-with_variable, ShapedType-Formed}
use Rattle.lf_definitions.proofs.Growth.{AllFormed}
use Rattle.lf_definitions.proofs.Options.{Some-Some}

-- What may occur in a scope may occur in another with the same shape.
abbrev pub ScopeGrows : Scope → Scope → Type 0
ScopeGrows Γ Δ = (h : LfHead) (s : SimpleType) → Γ h ≡ Some s → Δ h ≡ Some s

ScopeGrows-under : (Γ Δ : Scope) (a : SimpleType) → ScopeGrows Γ Δ → ScopeGrows (under a Γ) (under a Δ)
ScopeGrows-under Γ Δ a grow (bound zero) s e = e
ScopeGrows-under Γ Δ a grow (bound (suc n)) s e = grow (bound n) s e
ScopeGrows-under Γ Δ a grow (constant c) s e = grow (constant c) s e
ScopeGrows-under Γ Δ a grow (metavariable g) s e = grow (metavariable g) s e

pub ShapedType-grown : {kinds : ℕ → Option SimpleType} {Γ : Scope} {a : LfType} → ShapedType kinds Γ a → (Δ : Scope) → ScopeGrows Γ Δ → ShapedType kinds Δ a
ShapedType-grown {kinds} {a = a} p Δ grow = subst (ShapedType kinds Δ) (rename_type-same_head a) (ShapedType-rename_type p same_head Δ grow)

pub ShapedContext-grown : {kinds : ℕ → Option SimpleType} {Γ : Scope} {ctx : Context} → ShapedContext kinds Γ ctx → (Δ : Scope) → ScopeGrows Γ Δ → ShapedContext kinds Δ ctx
ShapedContext-grown shaped_empty Δ grow = shaped_empty
ShapedContext-grown (shaped_entry {Γ = Γ} {a = a} p ps) Δ grow =
    shaped_entry (ShapedType-grown p Δ grow) (ShapedContext-grown ps (under (shape_of a) Δ) (ScopeGrows-under Γ Δ (shape_of a) grow))

-- binders and what is under them
pub ShapedType-pis : (bs : List LfType) (end : LfType) {kinds : ℕ → Option SimpleType} {Γ : Scope} → ShapedContext kinds Γ bs → ShapedType kinds (under_all (shapes_of_types bs) Γ) end → ShapedType kinds Γ (pis bs end)
ShapedType-pis [] end shaped_empty q = q
ShapedType-pis (b ∷ bs) end (shaped_entry p ps) q = shaped_pi p (ShapedType-pis bs end ps q)

pub ShapedContext-pis : (bs : List LfType) (end : LfType) {kinds : ℕ → Option SimpleType} {Γ : Scope} → ShapedType kinds Γ (pis bs end) → ShapedContext kinds Γ bs
ShapedContext-pis [] end p = shaped_empty
ShapedContext-pis (b ∷ bs) end (shaped_pi p q) = shaped_entry p (ShapedContext-pis bs end q)

pub ShapedType-under_pis : (bs : List LfType) (end : LfType) {kinds : ℕ → Option SimpleType} {Γ : Scope} → ShapedType kinds Γ (pis bs end) → ShapedType kinds (under_all (shapes_of_types bs) Γ) end
ShapedType-under_pis [] end p = p
ShapedType-under_pis (b ∷ bs) end (shaped_pi p q) = ShapedType-under_pis bs end q

pub ScopeGrows-without_variables : (Γ : Scope) → ScopeGrows (without_variables Γ) Γ
ScopeGrows-without_variables Γ (bound n) s e = absurd cc
ScopeGrows-without_variables Γ (constant c) s e = e
ScopeGrows-without_variables Γ (metavariable g) s e = e

pub ShapedTyping-head : (kinds : Kinds) (Γ : Typing) → ShapedTyping kinds Γ → (h : LfHead) (a : LfType) → Γ h ≡ Some a → ShapedType (shapes_of_kinds kinds) (shapes_of Γ) a
ShapedTyping-head kinds Γ shaped (bound n) a e = shaped.of_variables n a e
ShapedTyping-head kinds Γ shaped (constant c) a e = ShapedType-grown (shaped.of_constants c a e) (shapes_of Γ) (ScopeGrows-without_variables (shapes_of Γ))
ShapedTyping-head kinds Γ shaped (metavariable g) a e = ShapedType-grown (shaped.of_metavariables g a e) (shapes_of Γ) (ScopeGrows-without_variables (shapes_of Γ))

pub ShapedTyping-family : (kinds : Kinds) (Γ : Typing) → ShapedTyping kinds Γ → (f : ℕ) (kind : LfKind) → kinds f ≡ Some kind → ShapedContext (shapes_of_kinds kinds) (shapes_of Γ) kind
ShapedTyping-family kinds Γ shaped f kind e = ShapedContext-grown (shaped.of_families f kind e) (shapes_of Γ) (ScopeGrows-without_variables (shapes_of Γ))

pub shapes_of-under : (Γ : Typing) (a : LfType) → shapes_of (with_variable a Γ) ≡ under (shape_of a) (shapes_of Γ)
shapes_of-under Γ a = fun_ext (shapes_of-with_variable Γ a)

same_without_variables : (Γ : Typing) (a : LfType) (h : LfHead) → without_variables (shapes_of Γ) h ≡ without_variables (shapes_of (with_variable a Γ)) h
same_without_variables Γ a (bound n) = refl
same_without_variables Γ a (constant c) = refl
same_without_variables Γ a (metavariable g) = refl

pub ShapedTyping-with_variable : (kinds : Kinds) (Γ : Typing) (a : LfType) → ShapedTyping kinds Γ → ShapedType (shapes_of_kinds kinds) (shapes_of Γ) a → ShapedTyping kinds (with_variable a Γ)
ShapedTyping-with_variable kinds Γ a shaped of_a = record {
  of_variables = at_variable;
  of_constants = λ c b e. subst (λ Δ. ShapedType (shapes_of_kinds kinds) Δ b) same (shaped.of_constants c b e);
  of_metavariables = λ g b e. subst (λ Δ. ShapedType (shapes_of_kinds kinds) Δ b) same (shaped.of_metavariables g b e);
  of_families = λ f kind e. subst (λ Δ. ShapedContext (shapes_of_kinds kinds) Δ kind) same (shaped.of_families f kind e);
}
  where
    same : without_variables (shapes_of Γ) ≡ without_variables (shapes_of (with_variable a Γ))
    same = fun_ext (same_without_variables Γ a)

    raised : (b : LfType) → ShapedType (shapes_of_kinds kinds) (shapes_of Γ) b → ShapedType (shapes_of_kinds kinds) (shapes_of (with_variable a Γ)) (raise_type b)
    raised b p =
        subst (λ Δ. ShapedType (shapes_of_kinds kinds) Δ (raise_type b)) (sym (shapes_of-under Γ a))
        (ShapedType-rename_type p next (under (shape_of a) (shapes_of Γ)) (KeepsShapes-next (shapes_of Γ) (shape_of a)))

    older : (n : ℕ) (o : Option LfType) → Γ (bound n) ≡ o → (b : LfType) → option_map raise_type o ≡ Some b → ShapedType (shapes_of_kinds kinds) (shapes_of (with_variable a Γ)) b
    older n None is b e = absurd cc
    older n (Some c) is b e = subst (ShapedType (shapes_of_kinds kinds) (shapes_of (with_variable a Γ))) (Some-Some e) (raised c (shaped.of_variables n c is))

    at_variable : (n : ℕ) (b : LfType) → with_variable a Γ (bound n) ≡ Some b → ShapedType (shapes_of_kinds kinds) (shapes_of (with_variable a Γ)) b
    at_variable zero b e = subst (ShapedType (shapes_of_kinds kinds) (shapes_of (with_variable a Γ))) (Some-Some e) (raised a of_a)
    at_variable (suc n) b e = older n (Γ (bound n)) refl b e

pub shapes_of-with_context : (ctx : Context) (Γ : Typing) → shapes_of (with_context ctx Γ) ≡ under_all (shapes_of_types ctx) (shapes_of Γ)
shapes_of-with_context [] Γ = refl
shapes_of-with_context (a ∷ ctx) Γ = shapes_of-with_context ctx (with_variable a Γ) ∙ ap (under_all (shapes_of_types ctx)) (shapes_of-under Γ a)

pub ShapedTyping-with_context : (ctx : Context) (kinds : Kinds) (Γ : Typing) → ShapedTyping kinds Γ → ShapedContext (shapes_of_kinds kinds) (shapes_of Γ) ctx → ShapedTyping kinds (with_context ctx Γ)
ShapedTyping-with_context [] kinds Γ shaped shaped_empty = shaped
ShapedTyping-with_context (a ∷ ctx) kinds Γ shaped (shaped_entry p ps) =
    ShapedTyping-with_context ctx kinds (with_variable a Γ) (ShapedTyping-with_variable kinds Γ a shaped p)
    (subst (λ Δ. ShapedContext (shapes_of_kinds kinds) Δ ctx) (sym (shapes_of-under Γ a)) ps)

-- Well-formed contexts are shaped.
pub ShapedContext-FormedContext : {kinds : Kinds} {Γ : Typing} {ctx : Context} → FormedContext kinds Γ ctx → ShapedContext (shapes_of_kinds kinds) (shapes_of Γ) ctx
ShapedContext-FormedContext formed_empty = shaped_empty
ShapedContext-FormedContext {kinds} (formed_entry {Γ = Γ} {a = a} {rest = rest} p ps) =
    shaped_entry (ShapedType-Formed p) (subst (λ Δ. ShapedContext (shapes_of_kinds kinds) Δ rest) (shapes_of-under Γ a) (ShapedContext-FormedContext ps))

-- the shapes of the types of a signature and of goals
shape_at-type_at : (types : List LfType) (k : ℕ) → option_map shape_of (type_at types k) ≡ shape_at (shapes_of_types types) k
shape_at-type_at [] k = refl
shape_at-type_at (a ∷ types) zero = refl
shape_at-type_at (a ∷ types) (suc k) = shape_at-type_at types k

shape_of-type_of_metavariable : (goals : List LfGoal) (g : ℕ) → option_map shape_of (type_of_metavariable goals g) ≡ shape_of_metavariable (shapes_of_goals goals) g
shape_of-type_of_metavariable [] g = refl
shape_of-type_of_metavariable (m ∷ goals) g = at_test (nat_eq m.id g) (shape_of-type_of_metavariable goals g)
  where
    at_test : (b : Bool) → option_map shape_of (type_of_metavariable goals g) ≡ shape_of_metavariable (shapes_of_goals goals) g →
        option_map shape_of (if b then Some (goal_type m) else type_of_metavariable goals g) ≡ (if b then Some (shape_of (goal_type m)) else shape_of_metavariable (shapes_of_goals goals) g)
    at_test true rest = refl
    at_test false rest = rest

shapes_of-typed_globals : (types : List LfType) (goals : List LfGoal) (h : LfHead) → shapes_of (typed_globals types goals) h ≡ globals (shapes_of_types types) (shapes_of_goals goals) h
shapes_of-typed_globals types goals (bound n) = refl
shapes_of-typed_globals types goals (constant c) = shape_at-type_at types c
shapes_of-typed_globals types goals (metavariable g) = shape_of-type_of_metavariable goals g

pub shapes_of-typing_in : (sig : LfSignature) (goals : List LfGoal) (ctx : Context) → shapes_of (typing_in sig goals ctx) ≡ scope_in sig goals ctx
shapes_of-typing_in sig goals ctx =
    shapes_of-with_context ctx (typed_globals (constant_types sig) goals) ∙ ap (under_all (shapes_of_types ctx)) (fun_ext (shapes_of-typed_globals (constant_types sig) goals))

-- Well-formed signatures are shaped.
pub ShapedSignature-FormedSignature : (sig : LfSignature) → FormedSignature sig → ShapedSignature sig
ShapedSignature-FormedSignature sig formed = let all = AllFormed formed in (kinds_shaped sig all, types_shaped sig all)
  where
    kinds_shaped : (prefix : LfSignature) → All (FormedEntry sig) prefix → All (ShapedContextIn sig [] []) (family_kinds prefix)
    kinds_shaped [] all = All-nil (ShapedContextIn sig [] [])
    kinds_shaped (family_entry name kind ∷ prefix) all =
        All-cons (ShapedContextIn sig [] []) kind (family_kinds prefix)
        (subst (λ Δ. ShapedContext (kind_shapes_in sig) Δ kind) (shapes_of-typing_in sig [] []) (ShapedContext-FormedContext (All-head (FormedEntry sig) (family_entry name kind) prefix all)))
        (kinds_shaped prefix (All-tail (FormedEntry sig) (family_entry name kind) prefix all))
    kinds_shaped (constant_entry name type ∷ prefix) all = kinds_shaped prefix (All-tail (FormedEntry sig) (constant_entry name type) prefix all)

    types_shaped : (prefix : LfSignature) → All (FormedEntry sig) prefix → All (ShapedTypeIn sig [] []) (constant_types prefix)
    types_shaped [] all = All-nil (ShapedTypeIn sig [] [])
    types_shaped (family_entry name kind ∷ prefix) all = types_shaped prefix (All-tail (FormedEntry sig) (family_entry name kind) prefix all)
    types_shaped (constant_entry name type ∷ prefix) all =
        All-cons (ShapedTypeIn sig [] []) type (constant_types prefix)
        (subst (λ Δ. ShapedType (kind_shapes_in sig) Δ type) (shapes_of-typing_in sig [] []) (ShapedType-Formed (All-head (FormedEntry sig) (constant_entry name type) prefix all)))
        (types_shaped prefix (All-tail (FormedEntry sig) (constant_entry name type) prefix all))

-- What is looked up is one of the list.
All-type_at : (P : LfType → Type 0) (types : List LfType) → All P types → (k : ℕ) (a : LfType) → type_at types k ≡ Some a → P a
All-type_at P [] all k a e = absurd cc
All-type_at P (b ∷ types) all zero a e = let same : b ≡ a = cc in subst P same (All-head P b types all)
All-type_at P (b ∷ types) all (suc k) a e = All-type_at P types (All-tail P b types all) k a e

All-kinds_of : (P : LfKind → Type 0) (kinds : List LfKind) → All P kinds → (f : ℕ) (kind : LfKind) → kinds_of kinds f ≡ Some kind → P kind
All-kinds_of P [] all f kind e = absurd cc
All-kinds_of P (k ∷ kinds) all zero kind e = let same : k ≡ kind = cc in subst P same (All-head P k kinds all)
All-kinds_of P (k ∷ kinds) all (suc f) kind e = All-kinds_of P kinds (All-tail P k kinds all) f kind e

All-type_of_metavariable : (P : LfGoal → Type 0) (goals : List LfGoal) → All P goals → (g : ℕ) (a : LfType) → type_of_metavariable goals g ≡ Some a → (m : LfGoal) × (goal_type m ≡ a) × P m
All-type_of_metavariable P [] all g a e = absurd cc
All-type_of_metavariable P (m ∷ goals) all g a e = at_test (nat_eq m.id g) e (λ e. All-type_of_metavariable P goals (All-tail P m goals all) g a e)
  where
    at_test : (b : Bool) → (if b then Some (goal_type m) else type_of_metavariable goals g) ≡ Some a →
        (type_of_metavariable goals g ≡ Some a → (m : LfGoal) × (goal_type m ≡ a) × P m) → (m : LfGoal) × (goal_type m ≡ a) × P m
    at_test true e rest = (m, cc, All-head P m goals all)
    at_test false e rest = rest e

-- Over shaped signatures, goals and contexts all types are shaped.
ShapedTyping-typed_globals : (sig : LfSignature) (goals : List LfGoal) → ShapedSignature sig → ShapedGoals sig goals → ShapedTyping (kinds_in sig) (typed_globals (constant_types sig) goals)
ShapedTyping-typed_globals sig goals shaped shaped_goals = record {
  of_variables = λ n a e. absurd cc;
  of_constants = λ c a e. ShapedType-grown (All-type_at (ShapedTypeIn sig [] []) (constant_types sig) shaped.1 c a e) scope grow;
  of_metavariables = λ g a e. at_goal a (All-type_of_metavariable (ShapedGoal sig goals) goals shaped_goals.1 g a e);
  of_families = λ f kind e. ShapedContext-grown (All-kinds_of (ShapedContextIn sig [] []) (family_kinds sig) shaped.0 f kind e) scope grow;
}
  where
    scope : Scope
    scope = without_variables (shapes_of (typed_globals (constant_types sig) goals))

    grow : ScopeGrows (scope_in sig [] []) scope
    grow (bound n) s e = absurd cc
    grow (constant c) s e = shapes_of-typed_globals (constant_types sig) goals (constant c) ∙ e
    grow (metavariable g) s e = absurd cc

    same_globals : ScopeGrows (scope_in sig goals []) scope
    same_globals (bound n) s e = absurd cc
    same_globals (constant c) s e = shapes_of-typed_globals (constant_types sig) goals (constant c) ∙ e
    same_globals (metavariable g) s e = shapes_of-typed_globals (constant_types sig) goals (metavariable g) ∙ e

    at_goal : (a : LfType) → (m : LfGoal) × (goal_type m ≡ a) × ShapedGoal sig goals m → ShapedType (kind_shapes_in sig) scope a
    at_goal a (m, same, shaped_m) =
        subst (ShapedType (kind_shapes_in sig) scope) same (ShapedType-grown (ShapedType-pis m.context (atomic m.target) shaped_m.0 shaped_m.1) scope same_globals)

pub ShapedTyping-typing_in : (sig : LfSignature) (goals : List LfGoal) (ctx : Context) → ShapedSignature sig → ShapedGoals sig goals → ShapedContextIn sig goals [] ctx → ShapedTyping (kinds_in sig) (typing_in sig goals ctx)
ShapedTyping-typing_in sig goals ctx shaped shaped_goals shaped_ctx =
    ShapedTyping-with_context ctx (kinds_in sig) (typed_globals (constant_types sig) goals) (ShapedTyping-typed_globals sig goals shaped shaped_goals)
    (subst (λ Δ. ShapedContext (kind_shapes_in sig) Δ ctx) (sym (fun_ext (shapes_of-typed_globals (constant_types sig) goals))) shaped_ctx)
