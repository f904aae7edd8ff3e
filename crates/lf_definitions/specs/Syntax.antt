-- The syntax of LF in canonical forms, as plain data.
use Rattle.std.specs.Prelude.{ℕ, zero, suc, ◌+◌, List, [], ◌∷◌, Option, Some, None}

-- What a spine begins with: a bound variable, with the number of binders between it and its own, a constant, or a metavariable.
pub data LfHead : Type 0 where
  bound : ℕ → LfHead
  constant : ℕ → LfHead
  metavariable : ℕ → LfHead

-- A term is an abstraction, or a head with a spine: its arguments, in the order of the binders of the head's type.
mutual
  pub data LfTerm : Type 0 where
    lam : LfTerm → LfTerm
    at : LfHead → Spine → LfTerm

  pub data Spine : Type 0 where
    no_args : Spine
    arg : LfTerm → Spine → Spine

-- The shape of a type forgets all but its binders: `arrow a s` is the shape of what takes an argument of shape `a` and then is as `s`.
pub data SimpleType : Type 0 where
  base : SimpleType
  arrow : SimpleType → SimpleType → SimpleType

-- A type has binders, each in the scope of those before it, over a family, by its number, with arguments.
pub data LfType : Type 0 where
  pi : LfType → LfType → LfType
  family : ℕ → Spine → LfType

-- An atom is what a type ends in: a family, by its number, with arguments.
pub record LfAtom : Type 0 where
  pub atom_family : ℕ
  pub atom_args : Spine

-- as a type with no binders
abbrev pub atomic : LfAtom → LfType
atomic a = family a.atom_family a.atom_args

-- A context is the list of its entries, the oldest first. So are the binders of a kind.
abbrev pub Context : Type 0
Context = List LfType

abbrev pub LfKind : Type 0
LfKind = List LfType

-- the binders, and then the rest
abbrev pub pis : List LfType → LfType → LfType
pis [] end = end
pis (a ∷ rest) end = pi a (pis rest end)

abbrev pub arrows : List SimpleType → SimpleType → SimpleType
arrows [] end = end
arrows (a ∷ rest) end = arrow a (arrows rest end)

-- the binders of a type
abbrev pub binders_of : LfType → List LfType
binders_of (pi a b) = a ∷ binders_of b
binders_of (family f args) = []

-- the atom that it ends in, under them
abbrev pub conclusion_atom : LfType → LfAtom
conclusion_atom (pi a b) = conclusion_atom b
conclusion_atom (family f args) = record { atom_family = f; atom_args = args }

-- the family of that
abbrev pub conclusion : LfType → ℕ
conclusion (pi a b) = conclusion b
conclusion (family f args) = f

-- the shape of a type
abbrev pub shape_of : LfType → SimpleType
shape_of (pi a b) = arrow (shape_of a) (shape_of b)
shape_of (family f args) = base

abbrev pub shapes_of_types : List LfType → List SimpleType
shapes_of_types [] = []
shapes_of_types (a ∷ rest) = shape_of a ∷ shapes_of_types rest

-- the shapes of the arguments that a shape takes
abbrev pub arguments : SimpleType → List SimpleType
arguments base = []
arguments (arrow a s) = a ∷ arguments s

-- how many those are
abbrev pub arity : SimpleType → ℕ
arity base = zero
arity (arrow a s) = suc (arity s)

-- how many arguments a spine has
abbrev pub args_count : Spine → ℕ
args_count no_args = zero
args_count (arg t ts) = suc (args_count ts)

-- the argument at a place, from 0
abbrev pub arg_at : Spine → ℕ → Option LfTerm
arg_at no_args k = None
arg_at (arg t ts) zero = Some t
arg_at (arg t ts) (suc k) = arg_at ts k

-- the arguments of the first spine and then those of the second
abbrev pub joined : Spine → Spine → Spine
joined no_args us = us
joined (arg t ts) us = arg t (joined ts us)

-- a body under so many abstractions
abbrev pub lams : ℕ → LfTerm → LfTerm
lams zero b = b
lams (suc n) b = lam (lams n b)

-- how many arrows a shape has
abbrev pub shape_size : SimpleType → ℕ
shape_size base = zero
shape_size (arrow a s) = suc (shape_size a + shape_size s)

-- a size that counts each abstraction, spine and argument, so that each part of a term is smaller than the term
abbrev mutual
  pub term_size : LfTerm → ℕ
  term_size (lam b) = suc (term_size b)
  term_size (at h ts) = suc (spine_size ts)

  pub spine_size : Spine → ℕ
  spine_size no_args = zero
  spine_size (arg t ts) = suc (term_size t + spine_size ts)

-- the same of types
abbrev pub type_size : LfType → ℕ
type_size (pi a b) = suc (type_size a + type_size b)
type_size (family f args) = suc (spine_size args)

-- and of lists of shapes
abbrev pub shapes_size : List SimpleType → ℕ
shapes_size shapes = shape_size (arrows shapes base)

-- and of lists of types
abbrev pub types_size : List LfType → ℕ
types_size types = type_size (pis types (family zero no_args))
