use Rattle.tree_marks.proofs.Deciding.{spreads_on}
use Rattle.tree_marks.proofs.spread.drop_around.Goals as goal

pub returns-clause-spread : goal.returns-clause-spread
returns-clause-spread c = λ old_proved old_stuck d h.
    spreads_on c.args.shape.now.shape c.requires.shape old_proved old_stuck c.args.proved.now c.args.stuck.now c.args.node d
    c.args.relevance.now.fading c.drop_below.new.relevance.fading c.drop_beside.new.relevance.fading c.drop_below.ensures.fades c.drop_below.ensures.below c.drop_beside.ensures.beside h
