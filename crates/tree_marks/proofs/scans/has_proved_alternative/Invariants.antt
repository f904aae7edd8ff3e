use Rattle.std.proofs.Common.{false}
use Rattle.tree_runs.specs.Marks.{all_children}
use Rattle.tree_marks.specs.TreeMarks.{marked, EachEntry}
use Rattle.tree_marks.proofs.scans.has_proved_alternative.Given as goal

abbrev pub invariant-loop-alternative : goal.invariant-loop-alternative
invariant-loop-alternative l = EachEntry l.shape.shape l.node l.alternative (all_children (marked l.proved)) false
