use Rattle.std.proofs.Common.{true}
use Rattle.tree_runs.specs.Marks.{some_child}
use Rattle.tree_marks.specs.TreeMarks.{marked, EachEntry}
use Rattle.tree_marks.proofs.known.passed_from.Given as goal

abbrev pub invariant-loop-alternative : goal.invariant-loop-alternative
invariant-loop-alternative l = EachEntry l.shape.shape l.node l.alternative (some_child (marked l.stuck)) true
