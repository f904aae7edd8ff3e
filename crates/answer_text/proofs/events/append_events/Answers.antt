use Rattle.std.proofs.Common.{arith}
use Rattle.tree_steps.specs.Journals.{event_shown}
use Rattle.answer_text.specs.Texts.{event_text}
use Rattle.answer_text.proofs.Pieces.{one_written}
use Rattle.answer_text.proofs.events.append_events.Goals as goal

pub loop-place-preserved : goal.loop-place-preserved
loop-place-preserved c =
    one_written event_text c.args.journal.now.events c.loop-place.place (event_shown c.event.result) _ _ _ (omega arith) c.event.ensures c.loop-place.invariant
    c.in_ok-append_event.ensures.ok
