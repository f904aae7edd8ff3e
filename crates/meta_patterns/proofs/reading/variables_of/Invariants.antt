use Rattle.std.proofs.Common.{◌≡◌, drop}
use Rattle.lf_terms.specs.Terms.{spine_of}
use Rattle.unification.specs.Patterns.{variables_of}
use Rattle.meta_patterns.proofs.Readings.{before}
use Rattle.meta_patterns.proofs.reading.variables_of.Given as goal

abbrev pub invariant-loop-i : goal.invariant-loop-i
invariant-loop-i l = variables_of l.args ≡ before l.numbers (variables_of (spine_of (drop l.i l.items)))
