-- The bindings of an answer of unification.
use Rattle.std.specs.Prelude.{List, Option, Some, None}
use Rattle.meta_goals.specs.Bindings.{LfBinding}
use Rattle.meta_unify.specs.declared.unified.Unified.{Unified}
use Rattle.meta_unify.specs.declared.unified.Unified.TheVariants.{Solved, Clash, Occurs, Escapes, Prune, NotPattern}

abbrev pub solution_of : Unified → Option (List LfBinding)
solution_of (Solved assign) = Some assign
solution_of (Clash path) = None
solution_of (Occurs g) = None
solution_of (Escapes path) = None
solution_of (Prune path) = None
solution_of (NotPattern path) = None
