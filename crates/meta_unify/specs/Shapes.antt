-- Shapes that are read off eta-long forms of variables.
use Rattle.std.specs.Prelude.{◌≡◌, ℕ, List, [], ◌∷◌, Option, Some, None}
use Rattle.lf_definitions.specs.Syntax.{metavariable, LfTerm, lam, at, Spine, no_args, arg, SimpleType, base, arrows}
use Rattle.lf_definitions.specs.Shaping.{Scope, Shaped}
use Rattle.meta_goals.specs.declared.assign.Entry.{Entry}

abbrev mutual
  -- the shape of which a term is the eta-long form of a variable
  pub shape_shown : LfTerm → SimpleType
  shape_shown (lam b) = shape_shown b
  shape_shown (at h ts) = arrows (shapes_shown ts) base

  pub shapes_shown : Spine → List SimpleType
  shapes_shown no_args = []
  shapes_shown (arg t ts) = shape_shown t ∷ shapes_shown ts

-- What is put for the metavariable at a term's head knows the shapes of its goal's context, in any scope in which the term is shaped.
abbrev pub KnowsShapes : LfTerm → Option (ℕ × Entry) → Type 0
KnowsShapes t None = Unit
KnowsShapes t (Some e) = (Γ : Scope) (s c : SimpleType) → Shaped Γ t s → Γ (metavariable e.0) ≡ Some c → c ≡ arrows e.1.shapes base
