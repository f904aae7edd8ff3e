-- Types, seen as plain data.
use Rattle.std.specs.Prelude.{List, [], ◌∷◌, Option, Some, None, Vec}
use Rattle.std.specs.Global.{Global}
use Rattle.std.specs.declared.sync.Arc.{Arc}
use Rattle.lf_definitions.specs.Syntax.{LfType, family, pis}
use Rattle.lf_terms.specs.declared.ty.Ty.{Ty}
use Rattle.lf_terms.specs.declared.ty.Atom.{Atom}

-- the type, whose binders and arguments are plain data already
abbrev pub type_of : Ty → LfType
type_of t = pis t.binders (family t.family t.args)

abbrev pub types_of : List Ty → List LfType
types_of [] = []
types_of (t ∷ rest) = type_of t ∷ types_of rest

-- An empty list has no block.
abbrev pub kept_types : Option (Arc (Vec Ty Global) Global) → List LfType
kept_types None = []
kept_types (Some a) = types_of a.value.items

abbrev pub atom_of : Atom → LfType
atom_of a = family a.family a.args
