use Rattle.std.proofs.Common.{take, map}
use Rattle.lf_terms.specs.GoalNumbers.{NumbersRise}
use Rattle.lf_terms.specs.Targets.{goal_of}
use Rattle.lf_terms.proofs.goal_numbers.numbers_rise.Given as goal

abbrev pub invariant-loop-i : goal.invariant-loop-i
invariant-loop-i l = NumbersRise (map goal_of (take l.i l.goals))
