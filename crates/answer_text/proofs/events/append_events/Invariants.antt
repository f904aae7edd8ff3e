use Rattle.answer_text.specs.Texts.{event_text}
use Rattle.answer_text.proofs.Pieces.{Written}
use Rattle.answer_text.proofs.events.append_events.Given as goal

abbrev pub invariant-loop-place : goal.invariant-loop-place
invariant-loop-place l = Written event_text l.journal.events l.place l.initial.out l.out
