use Rattle.tree_marks.proofs.Knowing.{knows_passed}
use Rattle.tree_marks.proofs.known.is_stuck_above.Goals as goal

pub returns-clause-is : goal.returns-clause-is
returns-clause-is c = c.has_passed.ensures c.args.stuck.now c.further_passed-further.ensures.before c.further_passed-further.ensures.next

pub returns-clause-knows : goal.returns-clause-knows
returns-clause-knows c = knows_passed c.args.shape.now.shape c.args.stuck.now _ c.args.node _ c.put_passed.ensures.passed c.further_passed-further.ensures.before c.further_passed-further.ensures.next
