use Rattle.std.proofs.Common.{◌≡◌, ◌<◌, length}
use Rattle.tree_runs.specs.Shapes.{nodes_count}
use Rattle.tree_marks.proofs.Knowing.{Climbing}
use Rattle.tree_marks.proofs.climb.climb.Given as goal

abbrev pub invariant-up : goal.invariant-up
invariant-up l = record {
  stands : l.at < nodes_count l.shape.shape;
  size : length l.relevance.fading.flags ≡ length l.initial.relevance.fading.flags;
  spare : l.relevance.spare ≡ l.initial.relevance.spare;
  climbing : Climbing l.shape.shape l.proved l.stuck l.known l.relevance.fading l.at l.is_proved l.is_stuck;
}

abbrev pub decreases-up : goal.decreases-up
decreases-up l = l.at
