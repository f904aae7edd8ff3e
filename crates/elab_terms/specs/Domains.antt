-- Binders that arguments are read at, and what is left of a type after some of them.
use Rattle.std.specs.Prelude.{ℕ, drop}
use Rattle.lf_definitions.specs.Syntax.{LfType, family, pis, Context}
use Rattle.lf_definitions.specs.Renaming.{next_by, rename_context}
use Rattle.lf_definitions.specs.Typing.{Typing, shapes_of}
use Rattle.lf_definitions.specs.Signatures.{LfSignature}
use Rattle.lf_definitions.specs.ShapedGoals.{ShapedContext, kind_shapes_in}
use Rattle.lf_kernel.specs.declared.head_type.HeadType.{HeadType}
use Rattle.lf_kernel.specs.ShapedPlaces.{binders_scope}

-- Binders that arguments are read at are shaped where they are declared, and where they are seen.
pub record Domains (sig : LfSignature) (Γ : Typing) (raise : ℕ) (binders : Context) : Type 0 where
  pub declared : ShapedContext (kind_shapes_in sig) (binders_scope Γ raise) binders
  pub seen : ShapedContext (kind_shapes_in sig) (shapes_of Γ) (rename_context (next_by raise) binders)

-- what is left of a head's type after so many binders, as it is declared
abbrev pub left_of : HeadType → ℕ → LfType
left_of found count = pis (drop count found.binders.now) (family found.family found.args.now)
