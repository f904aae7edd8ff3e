-- Terms, seen as plain data.
use Rattle.std.specs.Prelude.{List, [], ◌∷◌}
use Rattle.lf_definitions.specs.Syntax.{LfHead, bound, constant, metavariable, LfTerm, lam, at, Spine, no_args, arg}
use Rattle.lf_terms.specs.declared.head.Head.{Head}
use Rattle.lf_terms.specs.declared.head.Head.TheVariants.{Bound, Const, Meta}
use Rattle.lf_terms.specs.declared.term.Term.{Term}
use Rattle.lf_terms.specs.declared.term.Term.TheVariants.{Lam, At}
use Rattle.lf_terms.specs.declared.term.Kept.{Kept}
use Rattle.lf_terms.specs.declared.term.Kept.TheVariants.{Empty, One, Two, More}

abbrev pub head_of : Head → LfHead
head_of (Bound n) = bound n
head_of (Const c) = constant c
head_of (Meta g) = metavariable g

-- the term, whose body or arguments are plain data already
abbrev pub term_of : Term → LfTerm
term_of (Lam b) = lam b
term_of (At h ts) = at (head_of h) ts

abbrev pub spine_of : List Term → Spine
spine_of [] = no_args
spine_of (t ∷ ts) = arg (term_of t) (spine_of ts)

-- An empty list has no block, and a list of one or two stands in it.
abbrev pub kept_spine : Kept → Spine
kept_spine Empty = no_args
kept_spine (One a) = spine_of a.value
kept_spine (Two a) = spine_of a.value
kept_spine (More a) = spine_of a.value.items
