use Rattle.std.proofs.Common.{◌≡◌, ◌+◌, ℕ, List, Bool, length, true, false}
use Rattle.tree_marks.specs.TreeMarks.{unmarked}
use Rattle.tree_marks.specs.Fading.{ups, is_pending, IsSpread}
use Rattle.tree_marks.proofs.spread.work_off.Given as goal

abbrev pub invariant-loop-node : goal.invariant-loop-node
invariant-loop-node l = record {
  spread : (proved stuck : List Bool) → IsSpread l.shape.shape proved stuck l.initial.relevance.fading → IsSpread l.shape.shape proved stuck l.relevance.fading;
  waiting : (node : ℕ) → is_pending l.relevance.fading.pending node ≡ true → unmarked l.relevance.fading.flags node ≡ false;
  size : length l.relevance.fading.flags ≡ length l.initial.relevance.fading.flags;
  spare : l.relevance.spare ≡ l.initial.relevance.spare;
}

abbrev pub decreases-loop-node : goal.decreases-loop-node
decreases-loop-node l = ups l.relevance.fading.flags + length l.relevance.fading.pending
