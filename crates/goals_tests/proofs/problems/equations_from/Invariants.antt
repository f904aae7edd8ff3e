use Rattle.std.proofs.Common.{All}
use Rattle.goals_tests.specs.Settings.{ShapedPair}
use Rattle.goals_tests.proofs.problems.equations_from.Given as goal

abbrev pub invariant-loop-part : goal.invariant-loop-part
invariant-loop-part l = All (ShapedPair l.setting l.variables) l.equations
