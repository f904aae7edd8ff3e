use Rattle.std.proofs.Common.{◌≡◌, true}
use Rattle.tree_runs.specs.Marks.{all_from}
use Rattle.tree_marks.specs.TreeMarks.{marked}
use Rattle.tree_marks.proofs.scans.are_all_proved.Given as goal

abbrev pub invariant-loop-place : goal.invariant-loop-place
invariant-loop-place l = all_from (marked l.proved) l.first l.place ≡ true
