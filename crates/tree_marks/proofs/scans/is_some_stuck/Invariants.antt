use Rattle.std.proofs.Common.{◌≡◌, false}
use Rattle.tree_runs.specs.Marks.{any_from}
use Rattle.tree_marks.specs.TreeMarks.{marked}
use Rattle.tree_marks.proofs.scans.is_some_stuck.Given as goal

abbrev pub invariant-loop-place : goal.invariant-loop-place
invariant-loop-place l = any_from (marked l.stuck) l.first l.place ≡ false
