use Rattle.std.proofs.Common.{◌≡◌, take}
use Rattle.lf_terms.specs.Shapes.{simple_types_of}
use Rattle.lf_terms.proofs.shape.copied.Given as goal

abbrev pub invariant-loop-shape : goal.invariant-loop-shape
invariant-loop-shape l = simple_types_of l.copies.items ≡ simple_types_of (take l.shape-index l.shapes)
