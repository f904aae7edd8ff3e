use Rattle.std.proofs.Common.{◌≡◌, ◌++◌, map, length, All}
use Rattle.std.specs.Vec.Iter.{into_iter_items, into_iter_len}
use Rattle.goal_book.specs.Choices.{seen_choice}
use Rattle.goal_expand.specs.Seen.{seen_alternative, HaveShapes}
use Rattle.goal_expand.specs.Progress.{list_given, MayBeNext, as_taken}
use Rattle.goal_expand.proofs.expanding.each_chosen.Given as goal

abbrev pub invariant-loop-choice : goal.invariant-loop-choice
invariant-loop-choice l = record {
  found : map seen_alternative l.found.items ++ map (as_taken l.given l.made) (map seen_choice (into_iter_items l.choice-iterator))
      ≡ map (as_taken l.given l.made) (map seen_choice l.fn.choices.items);
  shapes : HaveShapes (list_given l.given) l.found.items;
  next : All (λ choice. MayBeNext l.given l.made.reached choice.app) (into_iter_items l.choice-iterator);
  count : into_iter_len l.choice-iterator ≡ length (into_iter_items l.choice-iterator);
}
