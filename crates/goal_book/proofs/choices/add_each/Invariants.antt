use Rattle.std.proofs.Common.{◌≡◌, ◌++◌, map, length}
use Rattle.std.specs.Vec.Iter.{into_iter_items, into_iter_len}
use Rattle.goal_book.specs.Choices.{as_choice}
use Rattle.goal_book.proofs.choices.add_each.Given as goal

abbrev pub invariant-loop-app : goal.invariant-loop-app
invariant-loop-app l = record {
  items : l.found.items ++ map (as_choice l.percent l.late) (into_iter_items l.app-iterator) ≡ l.initial.found.items ++ map (as_choice l.percent l.late) l.fn.apps.items;
  count : into_iter_len l.app-iterator ≡ length (into_iter_items l.app-iterator);
}
