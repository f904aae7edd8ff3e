use Rattle.meta_openings.proofs.Tables.{CountsUpTo}
use Rattle.meta_openings.proofs.places.counts_of.Given as goal

abbrev pub invariant-loop-place : goal.invariant-loop-place
invariant-loop-place l = CountsUpTo l.kept l.place l.count l.before.items
