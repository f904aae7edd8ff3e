use Rattle.binder_marks.proofs.MarkSteps.{other_head}
use Rattle.binder_marks.proofs.marking.mark_head.Goals as goal

pub returns-in_default : goal.returns-in_default
returns-in_default c = other_head c.args.places.now c.args.local c.args.marks.now c.args.head c.in_default.not-Bound
