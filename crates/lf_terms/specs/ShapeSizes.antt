-- Each part of a shape is smaller than the shape.
use Rattle.std.specs.Prelude.{◌≤◌, List, [], ◌∷◌, Option, Some, None, Vec}
use Rattle.std.proofs.Common.{arith}
use Rattle.std.specs.Global.{Global}
use Rattle.std.specs.declared.sync.Arc.{Arc}
use denote.Param.Weighed.{most}
use Rattle.lf_definitions.specs.Syntax.{shapes_size}
use Rattle.lf_terms.specs.declared.shape.Shape.{Shape}
use Rattle.lf_terms.specs.declared.shape.Shapes.TheInside as shapes
use Rattle.lf_terms.specs.declared.shape.Shapes.TheDeep.{deep-Shape, deep-Shapes}
use Rattle.lf_terms.specs.Shapes.{simple_types_of, kept_shapes}

items_fall : (ss : List Shape) → most deep-Shape ss ≤ shapes_size (simple_types_of ss)
items_fall [] = omega arith
items_fall (s ∷ ss) = omega (arith, items_fall ss)

kept_fall : (o : Option (Arc (Vec Shape Global) Global)) → deep-Shapes (record { items = o }) ≤ shapes_size (kept_shapes o)
kept_fall None = omega arith
kept_fall (Some a) = omega (arith, items_fall a.value.items)

pub shapes_fall : (a : shapes.Inside) → deep-Shapes a ≤ shapes_size (kept_shapes a.items)
shapes_fall a = kept_fall a.items
