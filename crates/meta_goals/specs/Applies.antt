-- What it takes to apply a body to arguments.
use Rattle.std.specs.Prelude.{List, length}
use Rattle.lf_definitions.specs.Syntax.{LfTerm, Spine, SimpleType, base}
use Rattle.lf_definitions.specs.Shaping.{Scope, under_all, Shaped, ShapedList}
use Rattle.lf_terms.specs.Extents.{StaysWithin, InTerm}

-- Some scope has the shapes of the arguments, the body is shaped with one variable more for each of them, and no other variable occurs in it.
pub record Applies (shapes : List SimpleType) (body : LfTerm) (args : Spine) : Type 0 where
  pub scope : Scope
  pub body_shaped : Shaped (under_all shapes scope) body base
  pub args_shaped : ShapedList scope args shapes
  pub within : StaysWithin (length shapes) (InTerm body)
