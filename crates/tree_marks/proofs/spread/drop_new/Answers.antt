use Rattle.std.proofs.Common.{sym, ◌∙◌}
use Rattle.tree_marks.proofs.Spreading.{begins_up, begins_down}
use Rattle.tree_marks.proofs.spread.drop_new.Goals as goal

pub returns-then-is_up-clause-spread : goal.returns-then-is_up-clause-spread
returns-then-is_up-clause-spread c = λ proved stuck begins unproved unstuck.
    begins_up c.args.shape.now.shape proved stuck c.args.relevance.now.fading c.args.node begins unproved unstuck c.requires.idle (sym c.is_up.ensures ∙ c.if-is_up.true)

pub returns-clause-spread : goal.returns-clause-spread
returns-clause-spread c = λ proved stuck begins unproved unstuck.
    begins_down c.args.shape.now.shape proved stuck c.args.relevance.now.fading c.args.node begins unproved unstuck _ c.requires.shape c.requires.idle (sym c.is_up.ensures ∙ c.if-is_up.false)
    c.drop_below.ensures.fades c.drop_below.ensures.below
