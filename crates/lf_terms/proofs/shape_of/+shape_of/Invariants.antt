use Rattle.std.proofs.Common.{◌≡◌, ◌+◌, take}
use Rattle.lf_definitions.specs.Syntax.{shapes_of_types, type_size, types_size}
use Rattle.lf_terms.specs.Shapes.{simple_types_of}
use Rattle.lf_terms.specs.Types.{type_of, types_of}
use Rattle.lf_terms.proofs.shape_of.+shape_of.Given as goal

abbrev pub decreases-shape_of : goal.decreases-shape_of
decreases-shape_of l = type_size (type_of l.ty.now) + 1

abbrev pub decreases-shapes_of : goal.decreases-shapes_of
decreases-shapes_of l = types_size l.types.now

abbrev pub invariant-shapes_of-loop-ty : goal.invariant-shapes_of-loop-ty
invariant-shapes_of-loop-ty l = simple_types_of l.shapes.items ≡ shapes_of_types (types_of (take l.ty-index l.items))
