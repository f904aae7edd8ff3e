-- Shapes, seen as plain data.
use Rattle.std.specs.Prelude.{ℕ, List, [], ◌∷◌, Option, Some, None, Vec}
use Rattle.std.specs.Global.{Global}
use Rattle.std.specs.declared.sync.Arc.{Arc}
use Rattle.lf_definitions.specs.Syntax.{SimpleType, base, arrows}
use Rattle.lf_terms.specs.declared.shape.Shape.{Shape}
use Rattle.lf_terms.specs.declared.shape.MetaShape.{MetaShape}

-- the shape, whose arguments are plain data already
abbrev pub simple_type_of : Shape → SimpleType
simple_type_of s = arrows s.args base

abbrev pub simple_types_of : List Shape → List SimpleType
simple_types_of [] = []
simple_types_of (s ∷ rest) = simple_type_of s ∷ simple_types_of rest

-- An empty list has no block.
abbrev pub kept_shapes : Option (Arc (Vec Shape Global) Global) → List SimpleType
kept_shapes None = []
kept_shapes (Some a) = simple_types_of a.value.items

-- the numbers of goals with their shapes
abbrev pub metas_of : List MetaShape → List (ℕ × SimpleType)
metas_of [] = []
metas_of (m ∷ rest) = (m.id, arrows m.args base) ∷ metas_of rest
