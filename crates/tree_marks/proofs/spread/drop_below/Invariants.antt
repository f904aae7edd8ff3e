use Rattle.std.proofs.Common.{◌≡◌}
use Rattle.tree_marks.proofs.ChildFlags.{BelowFades}
use Rattle.tree_marks.proofs.spread.drop_below.Given as goal

abbrev pub invariant-loop-alternative : goal.invariant-loop-alternative
invariant-loop-alternative l = record {
  done : BelowFades l.shape.shape l.initial.relevance.fading l.relevance.fading l.node l.alternative;
  spare : l.relevance.spare ≡ l.initial.relevance.spare;
}
