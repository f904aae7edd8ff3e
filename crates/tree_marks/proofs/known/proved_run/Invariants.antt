use Rattle.std.proofs.Common.{◌≡◌, true}
use Rattle.tree_runs.specs.Marks.{all_from}
use Rattle.tree_marks.specs.TreeMarks.{marked}
use Rattle.tree_marks.proofs.known.proved_run.Given as goal

abbrev pub invariant-loop-place : goal.invariant-loop-place
invariant-loop-place l = all_from (marked l.proved) l.first l.place ≡ true
