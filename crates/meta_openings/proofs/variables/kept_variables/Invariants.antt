use Rattle.meta_openings.proofs.EachVariable.{VariablesUpTo}
use Rattle.meta_openings.proofs.variables.kept_variables.Given as goal

abbrev pub invariant-loop-place : goal.invariant-loop-place
invariant-loop-place l = VariablesUpTo l.places.kept.now l.raise l.items l.place l.terms.items
