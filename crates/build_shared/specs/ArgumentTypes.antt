-- When the type of an argument of an opened type may be asked for.
use Rattle.std.specs.Prelude.{ℕ, Option}
use Rattle.lf_definitions.specs.Syntax.{Spine, SimpleType, LfType, shape_of}
use Rattle.lf_definitions.specs.Shaping.{Scope, ShapedType, ShapedSpine}

-- In some scope a type is shaped, and terms have the shapes of its binders.
pub record HasShapedTerms (type : LfType) (terms : Spine) : Type 0 where
  pub kinds : ℕ → Option SimpleType
  pub scope : Scope
  pub type_is_shaped : ShapedType kinds scope type
  pub terms_are_shaped : ShapedSpine scope terms (shape_of type)
