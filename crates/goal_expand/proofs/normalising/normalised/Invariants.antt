use Rattle.std.proofs.Common.{◌-◌}
use Rattle.goal_expand.specs.Progress.{IsUnderWay}
use Rattle.goal_expand.proofs.normalising.normalised.Given as goal

abbrev pub invariant-loop-count : goal.invariant-loop-count
invariant-loop-count l = IsUnderWay l.given (100 - l.count) l.made
