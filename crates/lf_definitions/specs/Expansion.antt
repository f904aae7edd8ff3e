-- The eta-long form of a head.
use Rattle.std.specs.Prelude.{zero}
use Rattle.lf_definitions.specs.Syntax.{LfHead, bound, LfTerm, at, Spine, no_args, arg, SimpleType, base, arrow, arity, lams}
use Rattle.lf_definitions.specs.Renaming.{next_by}

-- the variables of a shape's own binders, each in its eta-long form, the oldest first
abbrev pub own_variables : SimpleType → Spine
own_variables base = no_args
own_variables (arrow a s) = arg (lams (arity a) (at (next_by (arity a) (next_by (arity s) (bound zero))) (own_variables a))) (own_variables s)

-- A head of a shape, applied to the variables of as many abstractions as the shape takes arguments.
abbrev pub eta : LfHead → SimpleType → LfTerm
eta h s = lams (arity s) (at (next_by (arity s) h) (own_variables s))
