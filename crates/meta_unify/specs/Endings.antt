-- What unification ends with, seen as plain data.
use Rattle.std.specs.Prelude.{ℕ, List, map, Option, Some, None}
use Rattle.lf_definitions.specs.Syntax.{bound, constant, metavariable, LfTerm, lam, at}
use Rattle.unification.specs.Equations.{Reason, clash, occurs, escapes, prune, not_pattern, Ending, solved, refused}
use Rattle.unification.specs.Transitions.{Frozen, reason_of}
use Rattle.meta_goals.specs.Bindings.{assigned_of}
use Rattle.meta_unify.specs.declared.unified.Unified.{Unified}
use Rattle.meta_unify.specs.declared.unified.Unified.TheVariants.{Solved, Clash, Occurs, Escapes, Prune, NotPattern}
use Rattle.meta_unify.specs.declared.stop.Cause.{Cause}
use Rattle.meta_unify.specs.declared.stop.Cause.TheVariants.{Apart, Cyclic, Outside, Hidden, Unclear}

-- an answer as an ending
abbrev pub ending_of : Unified → Ending
ending_of (Solved assign) = solved (map assigned_of assign)
ending_of (Clash path) = refused (clash path)
ending_of (Occurs g) = refused (occurs g)
ending_of (Escapes path) = refused (escapes path)
ending_of (Prune path) = refused (prune path)
ending_of (NotPattern path) = refused (not_pattern path)

-- a cause as the reason at a path
abbrev pub reason_at : Cause → List ℕ → Reason
reason_at Apart path = clash path
reason_at (Cyclic g) path = occurs g
reason_at Outside path = escapes path
reason_at Hidden path = prune path
reason_at Unclear path = not_pattern path

-- The reason of a term against another, where its head is a metavariable.
abbrev pub reason_for : Frozen → List ℕ → LfTerm → LfTerm → Option Reason
reason_for frozen path (lam b) u = None
reason_for frozen path (at (bound n) ts) u = None
reason_for frozen path (at (constant c) ts) u = None
reason_for frozen path (at (metavariable g) ts) u = Some (reason_of frozen path g ts u)
