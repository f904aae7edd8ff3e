use Rattle.std.proofs.Common.{◌≡◌, ◌++◌, length, take, map}
use Rattle.lf_definitions.specs.GoalLists.{ids}
use Rattle.lf_terms.specs.Targets.{goal_of}
use Rattle.goal_lists.specs.Numbering.{numbered_pairs}
use Rattle.meta_goals.proofs.rename.number.Given as goal

abbrev pub invariant-loop-i : goal.invariant-loop-i
invariant-loop-i l =
    record {
      of_places : l.places ≡ l.fn.places ++ ids (map goal_of (take l.i l.items));
      of_pairs : l.pairs ≡ l.fn.pairs ++ numbered_pairs (length l.fn.places) (ids (map goal_of (take l.i l.items)));
    }
