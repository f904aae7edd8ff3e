use Rattle.lex_text.specs.Reading.{Belongs}
use Rattle.lex_text.proofs.Places.{Passes-trans}
use Rattle.lex_text.proofs.reading.end_of_run.Goals as goal

pub loop-next-preserved : goal.loop-next-preserved
loop-next-preserved c =
    Passes-trans (Belongs c.args.run) c.args.text.now c.args.start c.loop-next.place c.in-Some.next c.loop-next.invariant c.in-Some.ensures.0
