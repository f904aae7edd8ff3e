use Rattle.std.proofs.Common.{◌≡◌, ◌+◌, ◌≤◌, length, take, vec_capacity}
use Rattle.std.specs.Prelude.{sum}
use Rattle.tree_shape.proofs.Growing.{GrownTo}
use Rattle.tree_shape.proofs.grow.add_alternatives.Given as goal

abbrev pub invariant-loop-alternative : goal.invariant-loop-alternative
invariant-loop-alternative l = record {
  grown : GrownTo l.node l.counts l.alternative l.initial.above.items l.above.items l.initial.spans.items l.spans.items l.initial.alternatives.items l.alternatives.items;
  above_len : length l.above.items ≡ length l.initial.above.items + sum (take l.alternative l.counts);
  spans_len : length l.spans.items ≡ length l.initial.spans.items + sum (take l.alternative l.counts);
  alternatives_len : length l.alternatives.items ≡ length l.initial.alternatives.items + l.alternative;
  above_capacity : vec_capacity l.initial.above ≤ vec_capacity l.above;
  spans_capacity : vec_capacity l.initial.spans ≤ vec_capacity l.spans;
  alternatives_capacity : vec_capacity l.initial.alternatives ≤ vec_capacity l.alternatives;
}
