use Rattle.std.proofs.Common.{◌≡◌, ◌++◌, take}
use Rattle.std.specs.Vec.{vec_capacity}
use Rattle.tree_steps.proofs.journal.append_reserved.Given as goal

abbrev pub invariant-loop-number : goal.invariant-loop-number
invariant-loop-number l = record {
  items : l.items.items ≡ l.initial.items.items ++ take l.number-index l.more;
  capacity : vec_capacity l.items ≡ vec_capacity l.initial.items;
}
