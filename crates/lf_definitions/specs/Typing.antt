-- When a term has a type, and when types, contexts and kinds are well formed.
use Rattle.std.specs.Prelude.{◌≡◌, ℕ, zero, suc, List, [], ◌∷◌, Option, Some, None, option_map, if◌then◌else◌, nat_eq}
use Rattle.lf_definitions.specs.Syntax.{LfHead, bound, constant, metavariable, LfTerm, lam, at, Spine, no_args, arg, SimpleType, LfType, pi, family, LfAtom, atomic, Context, LfKind, pis, shape_of, shapes_of_types, base, arrows}
use Rattle.lf_definitions.specs.Renaming.{raise_type}
use Rattle.lf_definitions.specs.Shaping.{Scope}
use Rattle.lf_definitions.specs.Substitution.{Replacement, stays, push, push_all, SubstitutedSpine, SubstitutedType}

-- the type of each head that may occur
abbrev pub Typing : Type 0
Typing = LfHead → Option LfType

-- One more variable, of this type. The types of variables are those seen from under its binder. Those of constants and metavariables speak of no variable.
abbrev pub with_variable : LfType → Typing → Typing
with_variable a Γ (bound zero) = Some (raise_type a)
with_variable a Γ (bound (suc n)) = option_map raise_type (Γ (bound n))
with_variable a Γ (constant c) = Γ (constant c)
with_variable a Γ (metavariable g) = Γ (metavariable g)

-- more variables, the oldest first, each type in the scope of the variables before it
abbrev pub with_context : Context → Typing → Typing
with_context [] Γ = Γ
with_context (a ∷ rest) Γ = with_context rest (with_variable a Γ)

mutual
  pub data Typed : Typing → LfTerm → LfType → Type 0 where
    -- An abstraction has a function type where its body has the result type, with one more variable of the argument type.
    typed_lam : {Γ : Typing} {b : LfTerm} {a c : LfType} → Typed (with_variable a Γ) b c → Typed Γ (lam b) (pi a c)
    -- A spine has an atomic type where its head's type has as many binders as there are arguments, each argument has its binder's type,
    -- and the type is that under the binders, with the arguments substituted.
    typed_at : {Γ : Typing} {h : LfHead} {ts results : Spine} {f : ℕ} (binders : List LfType) (args : Spine) →
        Γ h ≡ Some (pis binders (family f args)) → TypedSpine Γ stays ts binders → SubstitutedSpine (push_all ts stays) args results →
        Typed Γ (at h ts) (family f results)

  -- The arguments have the types of the binders, to which `σ` is still to be done: it puts the arguments before these.
  pub data TypedSpine : Typing → Replacement → Spine → List LfType → Type 0 where
    typed_none : {Γ : Typing} {σ : Replacement} → TypedSpine Γ σ no_args []
    -- An argument has its binder's type with the earlier arguments substituted.
    typed_arg : {Γ : Typing} {σ : Replacement} {t : LfTerm} {ts : Spine} {a : LfType} {rest : List LfType} (c : LfType) →
        SubstitutedType σ a c → Typed Γ t c → TypedSpine Γ (push t σ) ts rest → TypedSpine Γ σ (arg t ts) (a ∷ rest)

-- the kind of each family: its binders
abbrev pub Kinds : Type 0
Kinds = ℕ → Option LfKind

pub data Formed : Kinds → Typing → LfType → Type 0 where
  -- A function type is well formed where its argument type is, and its result type is with one more variable.
  formed_pi : {kinds : Kinds} {Γ : Typing} {a b : LfType} → Formed kinds Γ a → Formed kinds (with_variable a Γ) b → Formed kinds Γ (pi a b)
  -- A family with arguments is well formed where they have the types of its kind's binders.
  formed_family : {kinds : Kinds} {Γ : Typing} {f : ℕ} {args : Spine} (binders : LfKind) → kinds f ≡ Some binders → TypedSpine Γ stays args binders → Formed kinds Γ (family f args)

-- A context is well formed, and so is a kind, where each of its entries is in the scope of those before it.
pub data FormedContext : Kinds → Typing → Context → Type 0 where
  formed_empty : {kinds : Kinds} {Γ : Typing} → FormedContext kinds Γ []
  formed_entry : {kinds : Kinds} {Γ : Typing} {a : LfType} {rest : Context} → Formed kinds Γ a → FormedContext kinds (with_variable a Γ) rest → FormedContext kinds Γ (a ∷ rest)

abbrev pub FormedKind : Kinds → Typing → LfKind → Type 0
FormedKind = FormedContext

-- A metavariable is a goal: its number, its context and its target.
pub record LfGoal : Type 0 where
  pub id : ℕ
  pub context : Context
  pub target : LfAtom

-- As a head it has its context as binders over its target.
abbrev pub goal_type : LfGoal → LfType
goal_type g = pis g.context (atomic g.target)

abbrev pub type_at : List LfType → ℕ → Option LfType
type_at [] k = None
type_at (a ∷ rest) zero = Some a
type_at (a ∷ rest) (suc k) = type_at rest k

abbrev pub type_of_metavariable : List LfGoal → ℕ → Option LfType
type_of_metavariable [] g = None
type_of_metavariable (m ∷ rest) g = if nat_eq m.id g then Some (goal_type m) else type_of_metavariable rest g

-- the kinds of families, in the order of their numbers
abbrev pub kinds_of : List LfKind → Kinds
kinds_of [] f = None
kinds_of (k ∷ rest) zero = Some k
kinds_of (k ∷ rest) (suc f) = kinds_of rest f

-- With no variables, the constants have the types of a list, in the order of their numbers, and the metavariables are goals of a list.
abbrev pub typed_globals : List LfType → List LfGoal → Typing
typed_globals constants goals (bound n) = None
typed_globals constants goals (constant c) = type_at constants c
typed_globals constants goals (metavariable g) = type_of_metavariable goals g

-- a context under them
abbrev pub types_in : List LfType → List LfGoal → Context → Typing
types_in constants goals ctx = with_context ctx (typed_globals constants goals)

-- the shapes of the types
abbrev pub shapes_of : Typing → Scope
shapes_of Γ h = option_map shape_of (Γ h)

-- the shapes of the kinds
abbrev pub shapes_of_kinds : Kinds → ℕ → Option SimpleType
shapes_of_kinds kinds f = option_map (λ binders. arrows (shapes_of_types binders) base) (kinds f)
