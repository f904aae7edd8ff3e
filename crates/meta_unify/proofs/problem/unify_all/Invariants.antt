use Rattle.unification.specs.Patterns.{has_number}
use Rattle.meta_unify.specs.Walks.{WalkPasses}
use Rattle.meta_unify.proofs.Problems.{first_ones}
use Rattle.meta_unify.proofs.problem.unify_all.Given as goal

abbrev pub invariant-loop-i : goal.invariant-loop-i
invariant-loop-i l = WalkPasses (has_number l.frozen) l.initial.late l.late (first_ones l.i l.items)
