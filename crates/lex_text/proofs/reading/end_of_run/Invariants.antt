use Rattle.std.proofs.Common.{◌-◌, length}
use Rattle.lex_text.specs.Reading.{Passes, Belongs}
use Rattle.lex_text.proofs.reading.end_of_run.Given as goal

abbrev pub invariant-loop-next : goal.invariant-loop-next
invariant-loop-next l = Passes (Belongs l.run) l.text l.start l.place

abbrev pub decreases-loop-next : goal.decreases-loop-next
decreases-loop-next l = length l.text - l.place
