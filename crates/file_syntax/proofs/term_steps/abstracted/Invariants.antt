use Rattle.std.proofs.Common.{◌≡◌, length}
use Rattle.file_syntax.specs.Reading.{abstracted}
use Rattle.file_trees.specs.TermViews.{tree_of}
use Rattle.file_syntax.proofs.term_steps.abstracted.Given as goal

-- the abstractions made so far with those that are left
abbrev pub invariant-loop-binder : goal.invariant-loop-binder
invariant-loop-binder l = abstracted l.binders (tree_of l.whole) ≡ abstracted l.fn.binders (tree_of l.fn.term)

abbrev pub decreases-loop-binder : goal.decreases-loop-binder
decreases-loop-binder l = length l.binders
