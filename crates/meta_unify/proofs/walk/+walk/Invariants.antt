use Rattle.std.proofs.Common.{ℕ, ◌+◌, ◌*◌, List}
use Rattle.unification.specs.Patterns.{has_number}
use Rattle.meta_unify.specs.Walks.{WalkPasses}
use Rattle.meta_unify.proofs.Walking.{so_far}
use Rattle.meta_unify.proofs.walk.+walk.Given as goal

abbrev pub decreases-unify_terms : goal.decreases-unify_terms
decreases-unify_terms l = 3 * l.room

abbrev pub decreases-unify_heads : goal.decreases-unify_heads
decreases-unify_heads l = 3 * l.room + 2

abbrev pub decreases-unify_args : goal.decreases-unify_args
decreases-unify_args l = 3 * l.room + 1

abbrev pub invariant-unify_args-loop-i : goal.invariant-unify_args-loop-i
invariant-unify_args-loop-i l = (path : List ℕ) → WalkPasses (has_number l.frozen) l.initial.late l.late (so_far path l.i l.ts l.us)
