use Rattle.std.proofs.Common.{◌≡◌, ◌++◌, map, drop}
use Rattle.lf_definitions.specs.GoalLists.{ids}
use Rattle.lf_terms.specs.Targets.{goal_of}
use Rattle.build_forward.proofs.refusal.add_numbers.Given as goal

abbrev pub invariant-loop-i : goal.invariant-loop-i
invariant-loop-i l = l.numbers ++ ids (map goal_of (drop l.i l.items)) ≡ l.fn.numbers ++ ids (map goal_of l.items)
