-- When a term is eta-long of a shape.
use Rattle.std.specs.Prelude.{◌≡◌, ℕ, zero, suc, List, [], ◌∷◌, Option, Some, None, if◌then◌else◌, nat_eq}
use Rattle.lf_definitions.specs.Syntax.{LfHead, bound, constant, metavariable, LfTerm, lam, at, Spine, no_args, arg, SimpleType, base, arrow, arrows, LfType, pi, family, shape_of}
use Rattle.lf_definitions.specs.Renaming.{extended}

-- the shape of each head that may occur
abbrev pub Scope : Type 0
Scope = LfHead → Option SimpleType

-- one more variable, of this shape
abbrev pub under : SimpleType → Scope → Scope
under a Γ = extended (Some a) Γ

-- more variables, the oldest first
abbrev pub under_all : List SimpleType → Scope → Scope
under_all [] Γ = Γ
under_all (a ∷ rest) Γ = under_all rest (under a Γ)

mutual
  pub data Shaped : Scope → LfTerm → SimpleType → Type 0 where
    -- An abstraction is shaped at an arrow where its body is shaped at the result, with one more variable of the argument's shape.
    shaped_lam : {Γ : Scope} {b : LfTerm} {a s : SimpleType} → Shaped (under a Γ) b s → Shaped Γ (lam b) (arrow a s)
    -- A spine is shaped at the base where its arguments are those that the shape of its head takes.
    shaped_at : {Γ : Scope} {h : LfHead} {ts : Spine} (s : SimpleType) → Γ h ≡ Some s → ShapedSpine Γ ts s → Shaped Γ (at h ts) base

  pub data ShapedSpine : Scope → Spine → SimpleType → Type 0 where
    -- At the base there is no argument.
    shaped_none : {Γ : Scope} → ShapedSpine Γ no_args base
    -- At an arrow there is one argument of its shape, and then those that the result takes.
    shaped_arg : {Γ : Scope} {t : LfTerm} {ts : Spine} {a s : SimpleType} → Shaped Γ t a → ShapedSpine Γ ts s → ShapedSpine Γ (arg t ts) (arrow a s)

-- the shape at a place of a list, from 0
abbrev pub shape_at : List SimpleType → ℕ → Option SimpleType
shape_at [] k = None
shape_at (s ∷ rest) zero = Some s
shape_at (s ∷ rest) (suc k) = shape_at rest k

-- the shape of a metavariable, where each stands beside its number
abbrev pub shape_of_metavariable : List (ℕ × SimpleType) → ℕ → Option SimpleType
shape_of_metavariable [] g = None
shape_of_metavariable (m ∷ rest) g = if nat_eq m.0 g then Some m.1 else shape_of_metavariable rest g

-- With no variables, the constants have the shapes of a list, in the order of their numbers, and so have the metavariables by theirs.
abbrev pub globals : List SimpleType → List (ℕ × SimpleType) → Scope
globals constants metas (bound n) = None
globals constants metas (constant c) = shape_at constants c
globals constants metas (metavariable g) = shape_of_metavariable metas g

-- a context under them
abbrev pub shapes_in : List SimpleType → List (ℕ × SimpleType) → List SimpleType → Scope
shapes_in constants metas ctx = under_all ctx (globals constants metas)

-- A list for variables: it is as long as the list of their shapes, and each of its terms is of the shape at its place.
abbrev pub ShapedList : Scope → Spine → List SimpleType → Type 0
ShapedList Γ sub inner = ShapedSpine Γ sub (arrows inner base)

-- A type is shaped where the arguments of its family are those that its kind takes, by the shapes of kinds, and its binders are shaped, each in the scope of those
-- before it.
pub data ShapedType : (ℕ → Option SimpleType) → Scope → LfType → Type 0 where
  shaped_pi : {kinds : ℕ → Option SimpleType} {Γ : Scope} {a b : LfType} → ShapedType kinds Γ a → ShapedType kinds (under (shape_of a) Γ) b → ShapedType kinds Γ (pi a b)
  shaped_family : {kinds : ℕ → Option SimpleType} {Γ : Scope} {f : ℕ} {args : Spine} (s : SimpleType) → kinds f ≡ Some s → ShapedSpine Γ args s → ShapedType kinds Γ (family f args)
