use Rattle.std.proofs.Common.{◌≡◌, ◌++◌, take, map}
use Rattle.lf_definitions.specs.GoalLists.{ids}
use Rattle.lf_terms.specs.Targets.{goal_of}
use Rattle.goal_clusters.proofs.mentions.add_numbers.Given as goal

abbrev pub invariant-loop-i : goal.invariant-loop-i
invariant-loop-i l = l.numbers.keys ≡ l.fn.numbers.keys ++ ids (map goal_of (take l.i l.items))
