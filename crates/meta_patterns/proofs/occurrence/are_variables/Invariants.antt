use Rattle.std.proofs.Common.{◌≡◌, drop}
use Rattle.std.specs.Prelude.{is_some}
use Rattle.lf_terms.specs.Terms.{spine_of}
use Rattle.unification.specs.Patterns.{variables_of}
use Rattle.meta_patterns.proofs.occurrence.are_variables.Given as goal

abbrev pub invariant-loop-i : goal.invariant-loop-i
invariant-loop-i l = is_some (variables_of l.terms) ≡ is_some (variables_of (spine_of (drop l.i l.items)))
