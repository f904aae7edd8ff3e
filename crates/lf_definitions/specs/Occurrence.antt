-- Where heads occur, and which binders of a type are premises.
use Rattle.std.specs.Prelude.{ℕ, List, ◌∷◌, []}
use Rattle.lf_definitions.specs.Syntax.{LfHead, bound, constant, LfTerm, lam, at, Spine, arg, LfType, pi, family, Context}
use Rattle.lf_definitions.specs.Renaming.{next}
use Rattle.lf_definitions.specs.Typing.{LfGoal, goal_type}

mutual
  -- A head occurs in a term: as the head of a spine, in an argument, or under a binder, from where it is seen as `next`.
  pub data OccursIn : LfHead → LfTerm → Type 0 where
    occurs_head : (h : LfHead) (ts : Spine) → OccursIn h (at h ts)
    occurs_args : (h k : LfHead) (ts : Spine) → OccursInSpine h ts → OccursIn h (at k ts)
    occurs_lam : (h : LfHead) (b : LfTerm) → OccursIn (next h) b → OccursIn h (lam b)

  pub data OccursInSpine : LfHead → Spine → Type 0 where
    occurs_first : (h : LfHead) (t : LfTerm) (ts : Spine) → OccursIn h t → OccursInSpine h (arg t ts)
    occurs_later : (h : LfHead) (t : LfTerm) (ts : Spine) → OccursInSpine h ts → OccursInSpine h (arg t ts)

-- in a type
pub data OccursInType : LfHead → LfType → Type 0 where
  occurs_binder : (h : LfHead) (a b : LfType) → OccursInType h a → OccursInType h (pi a b)
  occurs_rest : (h : LfHead) (a b : LfType) → OccursInType (next h) b → OccursInType h (pi a b)
  occurs_family : (h : LfHead) (f : ℕ) (args : Spine) → OccursInSpine h args → OccursInType h (family f args)

-- in a context, each of whose entries is in the scope of those before it
pub data OccursInContext : LfHead → Context → Type 0 where
  occurs_entry : (h : LfHead) (a : LfType) (rest : Context) → OccursInType h a → OccursInContext h (a ∷ rest)
  occurs_after : (h : LfHead) (a : LfType) (rest : Context) → OccursInContext (next h) rest → OccursInContext h (a ∷ rest)

-- A goal mentions what occurs in its context or in its target.
abbrev pub OccursInGoal : LfHead → LfGoal → Type 0
OccursInGoal h g = OccursInType h (goal_type g)

-- Constants and variables are rigid: no instantiation puts a term for them.
pub data IsRigid : LfHead → Type 0 where
  rigid_bound : (n : ℕ) → IsRigid (bound n)
  rigid_constant : (c : ℕ) → IsRigid (constant c)

mutual
  -- A head occurs outside all arguments of metavariables.
  pub data OccursRigidly : LfHead → LfTerm → Type 0 where
    rigidly_head : (h : LfHead) (ts : Spine) → OccursRigidly h (at h ts)
    rigidly_args : (h k : LfHead) (ts : Spine) → IsRigid k → OccursRigidlyInSpine h ts → OccursRigidly h (at k ts)
    rigidly_lam : (h : LfHead) (b : LfTerm) → OccursRigidly (next h) b → OccursRigidly h (lam b)

  pub data OccursRigidlyInSpine : LfHead → Spine → Type 0 where
    rigidly_first : (h : LfHead) (t : LfTerm) (ts : Spine) → OccursRigidly h t → OccursRigidlyInSpine h (arg t ts)
    rigidly_later : (h : LfHead) (t : LfTerm) (ts : Spine) → OccursRigidlyInSpine h ts → OccursRigidlyInSpine h (arg t ts)

-- the variable of this number
abbrev pub Occurs : ℕ → LfTerm → Type 0
Occurs n = OccursIn (bound n)

abbrev pub OccursSpine : ℕ → Spine → Type 0
OccursSpine n = OccursInSpine (bound n)

abbrev pub OccursType : ℕ → LfType → Type 0
OccursType n = OccursInType (bound n)

-- The premises of a type are those of its binders that occur neither in a later binder nor in the conclusion, in order.
pub data Premises : LfType → List LfType → Type 0 where
  no_premise : (f : ℕ) (args : Spine) → Premises (family f args) []
  witness : (a b : LfType) (rest : List LfType) → OccursType 0 b → Premises b rest → Premises (pi a b) rest
  premise : (a b : LfType) (rest : List LfType) → (OccursType 0 b → ⊥) → Premises b rest → Premises (pi a b) (a ∷ rest)
