-- What is known at a place: its types are shaped.
use Rattle.std.specs.Prelude.{ℕ}
use Rattle.lf_definitions.specs.Syntax.{LfType, Context}
use Rattle.lf_definitions.specs.Renaming.{next_by}
use Rattle.lf_definitions.specs.Shaping.{Scope, ShapedType}
use Rattle.lf_definitions.specs.Typing.{Typing, shapes_of}
use Rattle.lf_definitions.specs.Signatures.{kinds_in}
use Rattle.lf_definitions.specs.ShapedGoals.{ShapedTyping, ShapedContext, kind_shapes_in}
use Rattle.lf_kernel.specs.declared.place.Place.{Place}
use Rattle.lf_kernel.specs.Heads.{typing_of}

abbrev pub ShapedAt : Place → Type 0
ShapedAt p = ShapedTyping (kinds_in p.sig.now) (typing_of p)

-- a type that a term is tested against
abbrev pub ShapedTypeAt : Place → LfType → Type 0
ShapedTypeAt p a = ShapedType (kind_shapes_in p.sig.now) (shapes_of (typing_of p)) a

-- the scope in which the binders of a head stand, where the variables that they speak of have risen on the way to the spine
abbrev pub binders_scope : Typing → ℕ → Scope
binders_scope Γ by h = shapes_of Γ (next_by by h)

abbrev pub ShapedBindersAt : Place → ℕ → Context → Type 0
ShapedBindersAt p by binders = ShapedContext (kind_shapes_in p.sig.now) (binders_scope (typing_of p) by) binders
