use Rattle.meta_openings.proofs.EachEntry.{EntriesUpTo}
use Rattle.meta_openings.proofs.entries.kept_entries.Given as goal

abbrev pub invariant-loop-place : goal.invariant-loop-place
invariant-loop-place l = EntriesUpTo l.places.kept.now l.types l.place l.entries.items
